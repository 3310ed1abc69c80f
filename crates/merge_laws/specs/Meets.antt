-- A day whose clocks are in order, run on a sound book that is not past its first clock: each record meets its own clock, is judged at it,
-- and no clock is refused. Rests on sound books staying sound.
use Rattle.std.specs.Prelude.{Bool, true, false, cond, ◌&&◌, ◌≡◌, refl, List, [], ◌∷◌, map, ℕ, ◌≤◌, leb, eqb}
use Rattle.std.proofs.Common.{sym, ap, subst, ◌∙◌, leb-true, le-leb}
use Rattle.shape.specs.LimitsLaws.{both}
use Rattle.model.specs.declared.Call.TheVariants.{Clock, Delivery, Query}
use Rattle.model.specs.declared.Record.{Record}
use Rattle.model.specs.Words.{clock_of}
use Rattle.model.specs.Sound.{max_clock}
use Rattle.model.specs.Calls.{perform}
use Rattle.model.specs.Trace.{delivery_kind, call_of}
use Rattle.model.specs.Merge.{is_clock, clock_after, timed, opens_with_clock, orderly, mergeable}
use Rattle.model.specs.Home.{NotPast, clocks_met, OwnClock, ByOwnClocks}
use Rattle.laws.specs.Cond.{and-true}
use Rattle.laws.specs.Refusals.{perform-number}
use Rattle.laws.specs.SoundBook.{SoundBook, facts_book, Stays, clock-first, clock_stays, same_stays}
use Rattle.merge_laws.specs.MergedDay.{mergeable_facts}

record_stays : (ws : List ℕ) → SoundBook ws → (r : Record) → clock_of ws ≤ clock_after (clock_of ws) r → clock_after (clock_of ws) r ≤ max_clock
    → Stays ws (call_of r) (clock_after (clock_of ws) r) × OwnClock ws (call_of r)
unfolding call_of
record_stays ws b r later early = go (is_clock r) (eqb r.kind delivery_kind) later early
  where
    go : (t u : Bool) → clock_of ws ≤ cond t r.first (clock_of ws) → cond t r.first (clock_of ws) ≤ max_clock
        → let call = cond t (Clock r.first) (cond u (Delivery r.first r.second r.third) (Query r.first r.second)) in
        Stays ws call (cond t r.first (clock_of ws)) × OwnClock ws call
    go true u l e = (clock_stays ws b r.first l e, perform-number ws (Clock r.first) ∙ clock-first ws b r.first l e)
    go false true l e = let stays = same_stays ws b (Delivery r.first r.second r.third) refl in (stays, sym stays.1)
    go false false l e = let stays = same_stays ws b (Query r.first r.second) refl in (stays, sym stays.1)

day_meets : (rs : List Record) (ws : List ℕ) → SoundBook ws → orderly (clock_of ws) rs ≡ true
    → (clocks_met ws (map call_of rs) ≡ map (λ t. t.clock) (timed (clock_of ws) rs)) × ByOwnClocks ws (map call_of rs)
day_meets [] ws b h = (refl, tt)
day_meets (r ∷ rs) ws b h =
    let c : ℕ = clock_after (clock_of ws) r in
    let up = both {a = leb (clock_of ws) c} h in
    let top = both {a = leb c max_clock} up.1 in
    let next = record_stays ws b r (leb-true (clock_of ws) c up.0) (leb-true c max_clock top.0) in
    let left : List ℕ = (perform ws (call_of r)).left in
    let rest = day_meets rs left next.0.0 (rw next.0.1 top.1) in
    (rw (rest.0, next.0.1), (facts_book ws b, next.1, rest.1))

-- after a first clock record it makes no difference which clock was there before
later : (c : ℕ) (rs : List Record) → opens_with_clock rs ≡ true → NotPast c rs → orderly 0 rs ≡ true → (orderly c rs ≡ true) × (timed c rs ≡ timed 0 rs)
later c [] p n h = (refl, refl)
later c (r ∷ rs) p n h =
    let after : (d : ℕ) → clock_after d r ≡ r.first = λ d. ap (λ (t : Bool). cond t r.first d) p in
    let up = both {a = leb 0 (clock_after 0 r)} h in
    let same : clock_after c r ≡ clock_after 0 r = after c ∙ sym (after 0) in (
      and-true (le-leb c (clock_after c r) (subst (λ (z : ℕ). c ≤ z) (sym same) n))
          (subst (λ (z : ℕ). (leb z max_clock && orderly z rs) ≡ true) (sym same) up.1),
      ap (λ (z : ℕ). record { clock = z; held = r } ∷ timed z rs) same,
    )

pub mergeable_meets : (rs : List Record) → mergeable rs ≡ true → (ws : List ℕ) → SoundBook ws → NotPast (clock_of ws) rs
    → (clocks_met ws (map call_of rs) ≡ map (λ t. t.clock) (timed 0 rs)) × ByOwnClocks ws (map call_of rs)
mergeable_meets rs h ws b n =
    let facts = mergeable_facts rs h in
    let shifted = later (clock_of ws) rs facts.0 n facts.1 in
    let meets = day_meets rs ws b shifted.0 in
    (meets.0 ∙ ap (map (λ t. t.clock)) shifted.1, meets.1)
