-- If the tests of the quick pass by rows hold, the buckets are sound, and no weight exceeds the largest that the pass may have seen. Assumes
-- nothing.
use Rattle.std.specs.Prelude.{true, ◌&&◌, List, ◌++◌, ◌≡◌, ℕ, zero, suc, ◌+◌, ◌-◌, ◌*◌, ◌/◌, ◌%◌, ◌^◌, ◌≤◌, ◌<◌, leb, eqb, length, get_or, take, drop}
use Rattle.std.proofs.Math.Path.{refl}
use Rattle.std.proofs.Common.{sym, ap, ◌∙◌, add-zero, mul-le-mul_right, mod-eq_of_lt, arith, length-drop, pow_mono, get_or-drop, drop-drop, leb-true}
use Rattle.std.specs.Int.Bits.{bit_or, bit_xor}
use Rattle.shape.specs.LimitsLaws.{both}
use Rattle.model.specs.Level.{Bucket}
use Rattle.model.specs.Words.{slots}
use Rattle.model.specs.Sound.{weight_of, sound_buckets}
use Rattle.laws.specs.SoundLevel.{buckets_tests}
use Rattle.laws.specs.LevelWords.{slots_all, length-slots}
use Rattle.words.specs.Slot.{front, front_at, cons_same, part_all, part-past}
use Rattle.words.specs.Bits.{or_none, or_least, xor_none}
use Rattle.pass_laws.specs.Pass.{least_of}
use Rattle.pass_laws.proofs.PassLaws.{reached}
use Rattle.quick_laws.specs.Quick.{quick_each, most_of, is_enough, is_tried}
use Rattle.quick_laws.proofs.QuickLaws.{Enough, Leads, Held, width_of_first, mark_inside, quick_end, all_before, each_before, all_held, each_held, is_enough_tests, is_tried_tests}
use Rattle.quick_laws.specs.Rows.{open_row, row_slots, quick_row, end_at, seam_at, quick_turn, quick_turns, begun, join_rows, ReadRows, ByRows}
use Rattle.quick_laws.specs.declared.Quick.{Quick}
use Rattle.quick_laws.specs.declared.Rows.{Rows}

-- the word with the first bucket's width
first_width : (ws : List ℕ) (c : ℕ) → 0 < c → width_of_first (slots ws 0 c) ≡ get_or ws 3 0
first_width ws zero h = absurd (omega arith)
first_width ws (suc c) h = refl

-- in words v that start at slot `base`, a row at word `at` has the four slots from slot j on
slots-row : (ws v : List ℕ) (base at j n c : ℕ) → v ≡ drop (2 + 3 * base) ws → at + 3 * base ≡ 3 * j → j + 4 ≡ n → n ≤ c
    → slots ws j (c - j) ≡ row_slots v at ++ slots ws n (c - n)
slots-row ws v base at j n c e h four room =
    let left = c - n in
    ap (slots ws j) {x = c - j} {y = suc (suc (suc (suc left)))} (omega arith)
    ∙ cons_same (sym (front_at ws v base at j e h))
    (cons_same (sym (front_at ws v base (at + 3) (j + 1) e (omega (arith, h))))
    (cons_same (sym (front_at ws v base (at + 6) (j + 1 + 1) e (omega (arith, h))))
    (cons_same (sym (front_at ws v base (at + 9) (j + 1 + 1 + 1) e (omega (arith, h))))
    (ap (λ (z : ℕ). slots ws z left) {x = j + 1 + 1 + 1 + 1} {y = n} (omega arith)))))

-- ---- the loop over turns

-- the invariant: some turns were made, and `rest` starts at the slot after them
abbrev pub Turning : ℕ → ℕ → List ℕ → ℕ → Rows → List ℕ → ℕ → Type 0
Turning least most ws count t rest at = ReadRows least most ws count t at × (rest ≡ drop (2 + 3 * at) ws)

module _ (least most : ℕ) (ws : List ℕ) (count : ℕ) where
  pub quick_turns-start : Turning least most ws count (begun (get_or ws 1 0) (get_or ws 3 0)) (take (length ws - 2) (drop 2 ws)) 0
  quick_turns-start = (record { turned = 0; reads = refl; within = omega arith; rows = refl }, part_all ws 2)

  -- sixteen slots are left at the front
  pub quick_turns_room : (t : Rows) (rest : List ℕ) (at : ℕ) → Turning least most ws count t rest at → 2 + 3 * count ≤ length ws → at + 16 ≤ count → 48 ≤ length rest
  quick_turns_room t rest at f room more = rw (f.1, length-drop (2 + 3 * at) ws) (omega (arith, room, more))

  -- they are the slots from slot `at` on
  quick_turn_words : (rest : List ℕ) (at n : ℕ) → rest ≡ drop (2 + 3 * at) ws → at ≡ 16 * n → rest ≡ drop (48 * n) (drop 2 ws)
  quick_turn_words rest at n e h =
      e ∙ ap (λ (z : ℕ). drop z ws) {x = 2 + 3 * at} {y = 2 + 48 * n} (omega (arith, h)) ∙ sym (drop-drop (48 * n) 2 ws)

  pub quick_turns_next : (t : Rows) (rest : List ℕ) (at : ℕ) → Turning least most ws count t rest at → at + 16 ≤ count
      → Turning least most ws count (quick_turn least most t rest) (take (length rest - 48) (drop 48 rest)) (at + 16)
  quick_turns_next t rest at f more =
      let r = f.0 in
      let here = quick_turn_words rest at r.turned f.1 r.reads in (
        record {
          turned = suc r.turned;
          reads = omega (arith, r.reads);
          within = more;
          rows = ap (λ (z : Rows). quick_turn least most z rest) r.rows ∙ ap (quick_turn least most _) here;
        },
        part-past rest ws (2 + 3 * at) 48 f.1 ∙ ap (λ (z : ℕ). drop z ws) {x = 2 + 3 * at + 48} {y = 2 + 3 * (at + 16)} (omega arith),
      )

-- the loop goes on only if sixteen slots are left
pub goes_room : (gap at count : ℕ) → (leb (at + 16) count && eqb gap 0) ≡ true → at + 16 ≤ count
goes_room gap at count e = leb-true (at + 16) count (both {a = leb (at + 16) count} {b = eqb gap 0} e).0

-- the slots after the turns, one by one
pub rows_rest : (least most : ℕ) (ws : List ℕ) (count : ℕ) (t : Rows) (at : ℕ) (j r : Quick) → ReadRows least most ws count t at → j ≡ join_rows t
    → r ≡ quick_each least most j (slots ws at (count - at)) → ByRows least most ws count r
rows_rest least most ws count t at j r f e h =
    record {
      turned = f.turned;
      within = omega (arith, f.reads, f.within);
      same = rw (e, f.rows, f.reads) at h;
    }

module _ (k i count e : ℕ) (few : k ≤ 20) (low : i ≤ 24) (small : least_of count i ≤ 1048576) (light : e < 2097152) (ws : List ℕ) where
  abbrev least : ℕ
  least = least_of count i

  abbrev most : ℕ
  most = most_of count i

  -- what holds of the slots from slot j on, if they must start at `start`
  abbrev Tail : ℕ → ℕ → Type 0
  Tail start j = Leads start (slots ws j (count - j)) → Held k i count e start (slots ws j (count - j))

  -- ---- a row

  quick_row-before : (t : Quick) (v : List ℕ) (at : ℕ) → Enough k e (quick_row least most t v at) → Enough k e t × (get_or v at 0 ≤ 2 ^ 21)
  quick_row-before t v at p =
      let q = all_before k i count e few low small light (open_row t (get_or v at 0)) (row_slots v at) p in
      let m = mark_inside k e (record { end = get_or v at 0; faults = t.faults; reach = t.reach; extra = t.extra }) few q in
      (record { exact = m.0.exact; inside = m.0.inside; near = m.0.near }, m.1)

  quick_row_end : (t : Quick) (v : List ℕ) (at : ℕ) → (quick_row least most t v at).end ≡ end_at v (at + 9)
  quick_row_end t v at =
      let last : ((front (drop (at + 9) v)).offset + (front (drop (at + 9) v)).width) % 2 ^ 32 ≡ end_at v (at + 9) = simp (get_or-drop, add-zero) in
      quick_end k i count e few low small light _ (front (drop (at + 9) v)) ∙ last

  moved_tail : (s z j : ℕ) → s ≡ z → Tail z j → Tail s j
  moved_tail s z j same h = rw same h

  quick_row_tail : (t : Quick) (v : List ℕ) (base at j n start : ℕ) → v ≡ drop (2 + 3 * base) ws → at + 3 * base ≡ 3 * j → j + 4 ≡ n → n ≤ count
      → Enough k e (quick_row least most t v at) → end_at v (at + 9) ≡ start → Tail start n → Tail (get_or v at 0) j
  quick_row_tail t v base at j n start here place four room p same after =
      let begins = quick_row-before t v at p in
      let ends = moved_tail (quick_row least most t v at).end start n (quick_row_end t v at ∙ same) after in
      rw (slots-row ws v base at j n count here place four room)
      (λ leads. all_held k i count e few low small light 21 (open_row t (get_or v at 0)) (row_slots v at) (slots ws n (count - n))
      (omega arith) (omega arith) begins.1 leads p ends)

  -- ---- turns

  -- what the tests require of all rows
  record Fine (t : Rows) : Type 0 where
    one : Enough k e t.one
    two : Enough k e t.two
    three : Enough k e t.three
    four : Enough k e t.four
    gap : t.gap ≡ 0

  quick_turn_tail : (t : Rows) (v : List ℕ) (j n : ℕ) → v ≡ drop (2 + 3 * j) ws → j + 16 ≡ n → n ≤ count → Fine (quick_turn least most t v)
      → Tail (quick_turn least most t v).end n → Fine t × Tail t.end j
  unfolding quick_turn
  quick_turn_tail t v j n here sixteen room f after =
      let g0 = or_none _ (seam_at v 33) f.gap in
      let g1 = or_none _ (seam_at v 21) g0.0 in
      let g2 = or_none _ (seam_at v 9) g1.0 in
      let g3 = or_none t.gap (bit_xor t.end (get_or v 0 0)) g2.0 in
      let d = quick_row_tail t.four v j 36 (j + 12) n (end_at v 45) here (omega arith) (omega (arith, sixteen)) room f.four refl after in
      let c = quick_row_tail t.three v j 24 (j + 8) (j + 12) (get_or v 36 0) here (omega arith) (omega arith) (omega (arith, sixteen, room)) f.three
      (xor_none (end_at v 33) (get_or v 36 0) g0.1) d in
      let b = quick_row_tail t.two v j 12 (j + 4) (j + 8) (get_or v 24 0) here (omega arith) (omega arith) (omega (arith, sixteen, room)) f.two
      (xor_none (end_at v 21) (get_or v 24 0) g1.1) c in
      let a = quick_row_tail t.one v j 0 j (j + 4) (get_or v 12 0) here (omega arith) (omega arith) (omega (arith, sixteen, room)) f.one
      (xor_none (end_at v 9) (get_or v 12 0) g2.1) b in (
        record {
          one = (quick_row-before t.one v 0 f.one).0;
          two = (quick_row-before t.two v 12 f.two).0;
          three = (quick_row-before t.three v 24 f.three).0;
          four = (quick_row-before t.four v 36 f.four).0;
          gap = g3.0;
        },
        moved_tail t.end (get_or v 0 0) j (xor_none t.end (get_or v 0 0) g3.1) a,
      )

  quick_turns_tail : (n : ℕ) (t : Rows) → 16 * n ≤ count → Fine (quick_turns least most n t (drop 2 ws))
      → Tail (quick_turns least most n t (drop 2 ws)).end (16 * n) → Fine t × Tail t.end 0
  quick_turns_tail zero t room f after = (f, after)
  quick_turns_tail (suc n) t room f after =
      let v = drop (48 * n) (drop 2 ws) in
      let here : v ≡ drop (2 + 3 * (16 * n)) ws =
      drop-drop (48 * n) 2 ws ∙ ap (λ (z : ℕ). drop z ws) {x = 2 + 48 * n} {y = 2 + 3 * (16 * n)} (omega arith) in
      let p = quick_turn_tail (quick_turns least most n t (drop 2 ws)) v (16 * n) (16 * suc n) here (omega arith) room f after in
      quick_turns_tail n t (omega (arith, room)) p.0 p.1

  -- ---- all rows, and the slots after them

  join_rows_fine : (t : Rows) → Enough k e (join_rows t) → Fine t × (t.end ≤ 2 ^ 21)
  join_rows_fine t p =
      let f0 = or_none _ t.gap p.exact in
      let f1 = or_none _ t.four.faults f0.0 in
      let f2 = or_none _ t.three.faults f1.0 in
      let f3 = or_none t.one.faults t.two.faults f2.0 in
      let r3 = or_least t.one.reach t.two.reach in
      let r2 = or_least (bit_or t.one.reach t.two.reach) t.three.reach in
      let r1 = or_least (bit_or (bit_or t.one.reach t.two.reach) t.three.reach) t.four.reach in
      let r0 = or_least (bit_or (bit_or (bit_or t.one.reach t.two.reach) t.three.reach) t.four.reach) t.end in
      let x3 = or_least t.one.extra t.two.extra in
      let x2 = or_least (bit_or t.one.extra t.two.extra) t.three.extra in
      let x1 = or_least (bit_or (bit_or t.one.extra t.two.extra) t.three.extra) t.four.extra in
      let within : t.end / 2 < 2 ^ k = omega (arith, p.inside, r0.1) in (
        record {
          one = record { exact = f3.0; inside = omega (arith, p.inside, r0.0, r1.0, r2.0, r3.0); near = omega (arith, p.near, x1.0, x2.0, x3.0) };
          two = record { exact = f3.1; inside = omega (arith, p.inside, r0.0, r1.0, r2.0, r3.1); near = omega (arith, p.near, x1.0, x2.0, x3.1) };
          three = record { exact = f2.1; inside = omega (arith, p.inside, r0.0, r1.0, r2.1); near = omega (arith, p.near, x1.0, x2.1) };
          four = record { exact = f1.1; inside = omega (arith, p.inside, r0.0, r1.1); near = omega (arith, p.near, x1.1) };
          gap = f0.1;
        },
        omega (arith, within, pow_mono few),
      )

  rows_held : (r : Quick) → 0 < count → ByRows least most ws count r → Enough k e r → r.end ≡ 2 ^ k → Held k i count e (get_or ws 1 0) (slots ws 0 count)
  rows_held r some g p z =
      let first = get_or ws 1 0 in
      let width = get_or ws 3 0 in
      let t = quick_turns least most g.turned (begun first width) (drop 2 ws) in
      let bs = slots ws (16 * g.turned) (count - 16 * g.turned) in
      let q : Enough k e (quick_each least most (join_rows t) bs) = rw g.same at p in
      let f = join_rows_fine t (each_before k i count e few low small light (join_rows t) bs q) in
      let h = quick_turns_tail g.turned (begun first width) g.within f.0
      (λ leads. each_held k i count e few low small light (join_rows t) bs f.1 leads q (rw g.same at z)) in
      let l = reached 21 width (omega arith) (omega (arith, h.0.one.inside, pow_mono few)) in
      (rw (slots_all ws count) at h.1) (λ _. rw (first_width ws count some) (l.some, l.most))

-- ---- the level

module _ (ws : List ℕ) (count k : ℕ) (few : k ≤ 20) where
  abbrev bs : List Bucket
  bs = slots ws 0 count

  abbrev first : ℕ
  first = get_or ws 1 0

  -- the buckets of level i are sound if the tests of the quick pass hold
  held_sound : (i e : ℕ) → 0 < i → 0 < count → Held k i count e first bs → sound_buckets k i first bs ≡ true
  held_sound zero e upper some h = absurd (omega (arith, upper))
  held_sound (suc j) e upper some h =
      let n = length-slots ws 0 count in
      (buckets_tests k (suc j) first bs).1 (rw n some, rw n h.0)

  pub rows_enough : (i : ℕ) (r : Quick) → i ≤ 24 → is_tried count i ≡ true → ByRows (least_of count i) (most_of count i) ws count r → is_enough k first r ≡ true
      → (sound_buckets k i first bs ≡ true) × (weight_of bs ≤ (least_of count i + r.extra) * count)
  rows_enough i r low t g seen =
      let p = (is_tried_tests count i).0 t in
      let f = (is_enough_tests k first r).0 seen in
      let h = rows_held k i count r.extra few low p.2 f.3 ws r p.1 g f.1 f.2 in
      (held_sound i r.extra p.0 p.1 h, rw (length-slots ws 0 count) at h.1)

  -- so the sum of the weights is below 2 ^ 32
  pub rows_weight : (i : ℕ) (r : Quick) → i ≤ 24 → count ≤ 1024 → is_tried count i ≡ true → ByRows (least_of count i) (most_of count i) ws count r
      → is_enough k first r ≡ true → weight_of bs % 2 ^ 32 ≡ weight_of bs
  rows_weight i r low few_buckets t g seen =
      let p = (is_tried_tests count i).0 t in
      let f = (is_enough_tests k first r).0 seen in
      let h = rows_enough i r low t g seen in
      let top : (least_of count i + r.extra) * count ≤ 3145728 * count = mul-le-mul_right {m = least_of count i + r.extra} {n = 3145728} count (omega (arith, p.2, f.3)) in
      mod-eq_of_lt (omega (arith, h.1, top, few_buckets))
