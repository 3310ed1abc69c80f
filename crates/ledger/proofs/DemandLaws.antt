-- The claim (demand 3): `Claim` of the model, by one induction over the calls of the list. The invariant is that the words are those of the
-- ledger. Rests on `agree` (the same first refusal), on what each accepted call leaves, and on the bound, the limit and the exactness of an
-- answer.
use Rattle.std.specs.Prelude.{true, ◌≡◌, refl, List, [], ◌∷◌, ℕ, ◌+◌, ◌^◌, ◌≤◌, ◌<◌, length, get_or}
use Rattle.std.proofs.Math.Path.{sym, ap}
use Rattle.std.proofs.Common.{ap₂, ◌∙◌, ⊎_elim, arith, le-leb, leb-true}
use Rattle.std.proofs.Math.Nat.{le_refl}
use Rattle.shape.specs.declared.Shape.{Shape}
use Rattle.shape.specs.Limits.{Reply, accepted, shaped}
use Rattle.model.specs.declared.Call.{Call}
use Rattle.model.specs.declared.Call.TheVariants.{Make, Clock, Delivery, Query}
use Rattle.model.specs.Block.{Block, late, window_sum}
use Rattle.model.specs.Words.{shape_of, clock_of}
use Rattle.model.specs.Calls.{View, block_at, first_of, refusals, book_view, accept, perform, clocked, delivered}
use Rattle.model.specs.Ledger.{Entry, Ledger, ledger_of, volume_of, of_grade, of_window, ledger_view, note, enter}
use Rattle.model.specs.Ground.{ground_of, ground_values, ground}
use Rattle.model.specs.Claim.{Turn, run_calls, ByCall, Admits, Bound, Grounds, Quiet, Short, Span, Outside, Kept, Claim}
use Rattle.laws.specs.Cond.{eq_or_ne}
use Rattle.laws.specs.Refusals.{accepted_make, accepted-clock, accepted_delivery, accepted_query, late_delivery, settle-accepted, settle-refused, perform-number, enter-number}
use Rattle.laws.specs.GroundLaws.{ground_given}
use Rattle.ledger.specs.Time.{late_outside}
use Rattle.ledger.specs.Book.{block_for}
use Rattle.ledger.specs.State.{Good, words_of, words_shape, words_clock}
use Rattle.ledger.specs.Next.{made_words, made_good, block-is, clocked_good, delivered_good}
use Rattle.ledger.specs.Exact.{short_few}
use Rattle.ledger.specs.Steps.{expand, run-expand, each_as_turns}
use Rattle.ledger.specs.Demand.{Next, TurnKept, grown}
use Rattle.ledger.proofs.Agree.{agree}
use Rattle.ledger.proofs.NextLaws.{clocked_words, delivered_words}
use Rattle.ledger.proofs.WindowLaws.{sum_admits, sum_limited}
use Rattle.ledger.proofs.ExactLaws.{sum_exact}

module _ (l : Ledger) (good : Good l) where
  abbrev s : Shape
  s = l.shape

  abbrev clock : ℕ
  clock = l.clock

  abbrev es : List Entry
  es = l.entries

  abbrev ws : List ℕ
  ws = words_of l

  abbrev exact_view : View
  exact_view = ledger_view (length ws) l

  abbrev first : Call → ℕ
  first call = first_of (refusals (book_view ws) call)

  abbrev exact_first : Call → ℕ
  exact_first call = first_of (refusals exact_view call)

  same_first : (call : Call) → first call ≡ exact_first call
  same_first = agree l good

  -- ---- both sides of a call, accepted and refused

  module _ (call : Call) where
    book_accepted : first call ≡ 0 → perform ws call ≡ accept ws call
    unfolding perform
    book_accepted h = settle-accepted (refusals (book_view ws) call) ws (accept ws call) h

    exact_accepted : first call ≡ 0 → enter (length ws) l call ≡ note l call
    unfolding enter
    exact_accepted h = settle-accepted (refusals (ledger_view (length ws) l) call) l (note l call) (sym (same_first call) ∙ h)

    -- a refused call changes neither the book nor the ledger
    book_refused : (first call ≡ 0 → ⊥) → (perform ws call).left ≡ ws
    unfolding perform
    book_refused h = ap (λ o. o.left) (settle-refused (refusals (book_view ws) call) ws (accept ws call) h)

    exact_refused : (first call ≡ 0 → ⊥) → (enter (length ws) l call).left ≡ l
    unfolding enter
    exact_refused h = ap (λ o. o.left) (settle-refused (refusals exact_view call) l (note l call) (λ e. h (same_first call ∙ e)))

    same_next : (perform ws call).left ≡ ws → (enter (length ws) l call).left ≡ l → Next l call
    same_next book exact = record { later = l; good = good; book = book; exact = exact; span = λ _. (refl, le_refl clock) }

    same_number : (perform ws call).reply.number ≡ (enter (length ws) l call).reply.number
    same_number = perform-number ws call ∙ same_first call ∙ sym (enter-number (length ws) l call)

  -- ---- what an accepted call leads to

  module _ (call : Call) (h : first call ≡ 0) where
    exact_first_lem : exact_first call ≡ 0
    exact_first_lem = sym (same_first call) ∙ h

  make_next : (k' n' m' g' : ℕ) → first (Make k' n' m' g') ≡ 0 → Next l (Make k' n' m' g')
  make_next k' n' m' g' h =
      let call : Call = Make k' n' m' g' in
      record {
        later = ledger_of (shaped k' n' m' g') 0 [];
        good = made_good k' n' m' g' (accepted_make (book_view ws) k' n' m' g' h).0;
        book = ap (λ o. o.left) (book_accepted call h) ∙ made_words (shaped k' n' m' g');
        exact = ap (λ o. o.left) (exact_accepted call h);
        span = λ refused. absurd (refused (perform-number ws call ∙ h));
      }

  clock_next : (to : ℕ) → first (Clock to) ≡ 0 → Next l (Clock to)
  unfolding ledger_view
  clock_next to h =
      let facts = accepted-clock exact_view to (exact_first_lem (Clock to) h) in
      record {
        later = ledger_of s to es;
        good = clocked_good l good to facts.later facts.early;
        book = ap (λ o. o.left) (book_accepted (Clock to) h) ∙ ap (λ (z : Shape). clocked z to ws) (words_shape l good)
            ∙ clocked_words l good to facts.later;
        exact = ap (λ o. o.left) (exact_accepted (Clock to) h);
        span = λ _. (refl, facts.later);
      }

  delivery_next : (grade stamp volume : ℕ) → first (Delivery grade stamp volume) ≡ 0 → Next l (Delivery grade stamp volume)
  unfolding ledger_view
  delivery_next grade stamp volume h =
      let call : Call = Delivery grade stamp volume in
      let facts = accepted_delivery exact_view grade stamp volume (exact_first_lem call h) in
      let e : Entry = record { grade = grade; stamp = stamp; volume = volume } in
      record {
        later = ledger_of s clock (e ∷ es);
        good = delivered_good l good e facts.inside facts.low facts.high facts.room;
        book = ap (λ o. o.left) (book_accepted call h) ∙ ap (λ (z : Shape). delivered z grade stamp volume ws) (words_shape l good)
            ∙ delivered_words l good e facts.inside facts.low facts.high;
        exact = ap (λ o. o.left) (exact_accepted call h);
        span = λ _. (refl, le_refl clock);
      }

  accepted_next : (call : Call) → first call ≡ 0 → Next l call
  accepted_next (Make k' n' m' g') h = make_next k' n' m' g' h
  accepted_next (Clock to) h = clock_next to h
  accepted_next (Delivery grade stamp volume) h = delivery_next grade stamp volume h
  accepted_next (Query grade window) h =
      let call : Call = Query grade window in
      same_next call (ap (λ o. o.left) (book_accepted call h)) (ap (λ o. o.left) (exact_accepted call h))

  pub next : (call : Call) → Next l call
  next call = ⊎_elim (accepted_next call) (λ h. same_next call (book_refused call h) (exact_refused call h)) (eq_or_ne (first call) 0)

  -- ---- one turn

  abbrev turn : Call → Turn
  turn call = record { call = call; words = ws; ledger = l; book = (perform ws call).reply; exact = (enter (length ws) l call).reply }

  -- a function of the shape, the clock and a grade's block has the same value of those that the ledger gives
  of_ledger : {A : Type 0} (f : Shape → ℕ → Block → A) (grade : ℕ) → grade < s.g
      → f (shape_of ws) (clock_of ws) (block_at ws grade) ≡ f s clock (block_for s clock es (of_grade grade))
  of_ledger f grade h = rw (words_clock l good) (ap₂ (λ (z : Shape). f z clock) (words_shape l good) (block-is l good grade h))

  -- the replies to an answered question are the two sums, so what holds of these holds of the replies
  query_relates : (grade window : ℕ) (R : Reply → Reply → Type 0) → (turn (Query grade window)).book.number ≡ 0
      → (window ≤ 2 ^ s.k
      → R (accepted (window_sum s clock window (block_for s clock es (of_grade grade)) ∷ [])) (accepted (volume_of (of_window clock (of_grade grade) window) es ∷ [])))
      → R (turn (Query grade window)).book (turn (Query grade window)).exact
  unfolding ledger_view
  query_relates grade window R number held =
      let call : Call = Query grade window in
      let h : first call ≡ 0 = sym (perform-number ws call) ∙ number in
      let facts = accepted_query exact_view grade window (exact_first_lem call h) in
      rw (book_accepted call h, exact_accepted call h, of_ledger (λ z c. window_sum z c window) grade facts.inside) (held facts.short)

  query_bound : (grade window : ℕ) → Bound (turn (Query grade window))
  query_bound grade window number room =
      query_relates grade window (λ book exact. Admits s.n s.k (get_or book.values 0 0) (get_or exact.values 0 0)) number
      (sum_admits l good (of_grade grade) (good.few grade) room window)

  query_quiet : (grade window : ℕ) → Quiet (turn (Query grade window))
  query_quiet grade window number few =
      query_relates grade window ◌≡◌ number (λ w. ap (λ (sum : ℕ). accepted (sum ∷ [])) (sum_exact l good (of_grade grade) window w few))

  query_short : (grade window : ℕ) → Short (turn (Query grade window))
  query_short grade window number w = query_quiet grade window number (short_few l good (of_grade grade) window w)

  query_grounds : (grade window : ℕ) → Grounds (turn (Query grade window))
  unfolding ledger_view ground_of
  query_grounds grade window number =
      let call : Call = Query grade window in
      let h : first call ≡ 0 = sym (perform-number ws call) ∙ number in
      let facts = accepted_query exact_view grade window (exact_first_lem call h) in
      let same : ground ws grade window ≡ accepted (ground_values (ground_of s clock window (block_for s clock es (of_grade grade)))) =
      ground_given ws grade window h ∙ of_ledger (λ z c b. accepted (ground_values (ground_of z c window b))) grade facts.inside in
      rw same
      (refl, sum_limited l good (of_grade grade) (good.few grade) window facts.short)

  turn_kept : (call : Call) → TurnKept (turn call)
  turn_kept (Make k' n' m' g') = record { bound = tt; grounds = tt; quiet = tt; short = tt }
  turn_kept (Clock to) = record { bound = tt; grounds = tt; quiet = tt; short = tt }
  turn_kept (Delivery grade stamp volume) = record { bound = tt; grounds = tt; quiet = tt; short = tt }
  turn_kept (Query grade window) = record {
    bound = query_bound grade window;
    grounds = query_grounds grade window;
    quiet = query_quiet grade window;
    short = query_short grade window;
  }

  turn-late : (grade stamp volume : ℕ) → (turn (Delivery grade stamp volume)).book.number ≡ 9 → late s clock stamp ≡ true
  unfolding ledger_view
  turn-late grade stamp volume number =
      let call : Call = Delivery grade stamp volume in
      late_delivery exact_view grade stamp volume (sym (same_first call) ∙ sym (perform-number ws call) ∙ number)

  -- ---- what is late stays late through the span

  module _ (call : Call) (c : Next l call) (stamp : ℕ) (h : stamp + 2 ^ s.k ≤ clock) where
    late_next : ByCall ((perform ws call).reply.number ≡ 0 → ⊥) (Unit {0}) (λ _. Unit {0}) (λ _ _. Unit {0}) call → stamp + 2 ^ c.later.shape.k ≤ c.later.clock
    late_next within =
        let facts = c.span within in
        let power : 2 ^ c.later.shape.k ≡ 2 ^ s.k = ap (λ (z : ℕ). 2 ^ z) facts.0 in
        omega (arith, facts.1)

  span_step : (call : Call) (c : Next l call) (ts : List Turn) (stamp : ℕ) → stamp + 2 ^ s.k ≤ clock
      → (stamp + 2 ^ c.later.shape.k ≤ c.later.clock → Span (Outside stamp) ts) → Span (Outside stamp) (turn call ∷ ts)
  span_step (Make k' n' m' g') c ts stamp h rest = λ refused. (tt, rest (late_next (Make k' n' m' g') c stamp h refused))
  span_step (Clock to) c ts stamp h rest = (tt, rest (late_next (Clock to) c stamp h tt))
  span_step (Delivery grade other volume) c ts stamp h rest = (tt, rest (late_next (Delivery grade other volume) c stamp h tt))
  span_step (Query grade window) c ts stamp h rest = (
    λ w. late_outside s clock clock window stamp (le-leb (stamp + 2 ^ s.k) clock h) (le_refl clock) w,
    rest (late_next (Query grade window) c stamp h tt),
  )

  missed_step : (call : Call) (c : Next l call) (ts : List Turn)
      → ((stamp : ℕ) → stamp + 2 ^ c.later.shape.k ≤ c.later.clock → Span (Outside stamp) ts)
      → ByCall (Unit {0}) (Unit {0}) (λ stamp. (turn call).book.number ≡ 9 → Span (Outside stamp) ts) (λ _ _. Unit {0}) call
  missed_step (Make k' n' m' g') c ts rest = tt
  missed_step (Clock to) c ts rest = tt
  missed_step (Delivery grade stamp volume) c ts rest = λ number.
      let h : stamp + 2 ^ s.k ≤ clock = leb-true (stamp + 2 ^ s.k) clock (turn-late grade stamp volume number) in
      rest stamp (late_next (Delivery grade stamp volume) c stamp h tt)
  missed_step (Query grade window) c ts rest = tt

-- ---- the whole list

-- a late stamp lies outside every window in the rest of the span
outside : (calls : List Call) (l : Ledger) → Good l → (stamp : ℕ) → stamp + 2 ^ l.shape.k ≤ l.clock → Span (Outside stamp) (grown l calls)
unfolding run_calls
outside [] l good stamp h = tt
outside (call ∷ calls) l good stamp h =
    let c = next l good call in
    rw (c.book, c.exact) (span_step l good call c (grown c.later calls) stamp h (outside calls c.later c.good stamp))

kept : (calls : List Call) (l : Ledger) → Good l → Kept (grown l calls)
unfolding run_calls
kept [] l good = record { same = tt; bound = tt; missed = tt; grounds = tt; quiet = tt; short = tt }
kept (call ∷ calls) l good =
    let c = next l good call in
    let rest = kept calls c.later c.good in
    let here = turn_kept l good call in
    rw (c.book, c.exact) (record {
      same = (same_number l good call, rest.same);
      bound = (here.bound, rest.bound);
      missed = (missed_step l good call c (grown c.later calls) (outside calls c.later c.good), rest.missed);
      grounds = (here.grounds, rest.grounds);
      quiet = (here.quiet, rest.quiet);
      short = (here.short, rest.short);
    })

-- the claim, for every list of calls and replays from the words that an accepted make left on any words
pub demand_3 : Claim
unfolding Claim perform
demand_3 before k n m g number steps =
    let call : Call = Make k n m g in
    let l : Ledger = ledger_of (shaped k n m g) 0 [] in
    let h : first_of (refusals (book_view before) call) ≡ 0 = sym (perform-number before call) ∙ number in
    let words : (perform before call).left ≡ words_of l =
    ap (λ o. o.left) (settle-accepted (refusals (book_view before) call) before (accept before call) h) ∙ made_words (shaped k n m g) in
    let held : Kept (grown l (expand steps)) = kept (expand steps) l (made_good k n m g (accepted_make (book_view before) k n m g h).0) in
    (rw (run-expand (perform before call).left l steps, words) held, each_as_turns (perform before call).left l steps)
