-- SPECIFICATION 16.2: the kind that a record's first word names. Assumes nothing.
use Rattle.std.specs.Prelude.{Bool, true, false, cond, ◌&&◌, ◌⊎◌, ◌≡◌, ◌≢◌, refl, ℕ, eqb, Option, Some, None, unwrap_or}
use Rattle.std.specs.Option.{option_eq}
use Rattle.std.proofs.Common.{inl, inr, sym}
use Rattle.std.proofs.lemmas.Bool.Decides.{eqb_tells}
use Rattle.days.specs.declared.Kind.{Kind}
use Rattle.days.specs.declared.Kind.TheVariants.{Clock, Delivery, Query}
use Rattle.model.specs.declared.Call.TheVariants as C
use Rattle.model.specs.declared.Record.{Record}
use Rattle.model.specs.Trace.{clock_kind, delivery_kind, query_kind, call_of, sound_record}

unfoldable pub kind_of : ℕ → Option Kind
kind_of word =
    cond (eqb word clock_kind) (Some Clock)
    (cond (eqb word delivery_kind) (Some Delivery)
    (cond (eqb word query_kind) (Some Query) None))

-- a choice by the kind
abbrev by_kind : {A : Type 0} → A → A → A → Kind → A
by_kind c d q Clock = c
by_kind c d q Delivery = d
by_kind c d q Query = q

-- whether a word is a kind's number, as a test and as an equation
abbrev Tells : ℕ → ℕ → Type 0
Tells word kind = ((eqb word kind ≡ true) × (word ≡ kind)) ⊎ ((eqb word kind ≡ false) × (word ≢ kind))

-- a fact of every word, by the kind that it names
by_number : (P : ℕ → Type 0) → P clock_kind → P delivery_kind → P query_kind
    → ((word : ℕ) → eqb word clock_kind ≡ false → eqb word delivery_kind ≡ false → eqb word query_kind ≡ false → P word)
    → (word : ℕ) → P word
by_number P c d q other word = first (eqb_tells word clock_kind)
  where
    third : eqb word clock_kind ≡ false → eqb word delivery_kind ≡ false → Tells word query_kind → P word
    third x y (inl is) = rw is.1 q
    third x y (inr not) = other word x y not.0

    second : eqb word clock_kind ≡ false → Tells word delivery_kind → P word
    second x (inl is) = rw is.1 d
    second x (inr not) = third x not.0 (eqb_tells word query_kind)

    first : Tells word clock_kind → P word
    first (inl is) = rw is.1 c
    first (inr not) = second not.0 (eqb_tells word delivery_kind)

-- a word names a kind exactly if it is the kind's number
abbrev pub number : Kind → ℕ
number = by_kind clock_kind delivery_kind query_kind

pub named : (same : Kind → Kind → Bool) (kind : Kind) → same Clock kind ≡ eqb clock_kind (number kind)
    → same Delivery kind ≡ eqb delivery_kind (number kind) → same Query kind ≡ eqb query_kind (number kind)
    → (word : ℕ) → option_eq same (kind_of word) (Some kind) ≡ eqb word (number kind)
unfolding kind_of
named same kind c d q = by_number (λ (word : ℕ). option_eq same (kind_of word) (Some kind) ≡ eqb word (number kind)) c d q (λ word x y z. rw (x, y, z) (other word kind x y z))
  where
    other : (word : ℕ) (kind : Kind) → eqb word clock_kind ≡ false → eqb word delivery_kind ≡ false → eqb word query_kind ≡ false
        → false ≡ eqb word (number kind)
    other word Clock x y z = sym x
    other word Delivery x y z = sym y
    other word Query x y z = sym z

-- the definitions of the model as such choices
module _ (r : Record) where
  pub call_by_kind : (kind : Kind) → kind ≡ unwrap_or (kind_of r.kind) Query
      → by_kind (C.Clock r.first) (C.Delivery r.first r.second r.third) (C.Query r.first r.second) kind ≡ call_of r
  unfolding kind_of call_of
  call_by_kind kind is = rw is (go (eqb r.kind clock_kind) (eqb r.kind delivery_kind) (eqb r.kind query_kind))
    where
      go : (x y z : Bool) → by_kind (C.Clock r.first) (C.Delivery r.first r.second r.third) (C.Query r.first r.second)
          (unwrap_or (cond x (Some Clock) (cond y (Some Delivery) (cond z (Some Query) None))) Query)
          ≡ cond x (C.Clock r.first) (cond y (C.Delivery r.first r.second r.third) (C.Query r.first r.second))
      go true y z = refl
      go false true z = refl
      go false false true = refl
      go false false false = refl

  abbrev sound_as : Option Kind → Bool
  sound_as (Some kind) = by_kind (eqb r.second 0 && eqb r.third 0) true (eqb r.third 0) kind
  sound_as None = false

  pub sound_by_kind : (kind : Option Kind) → kind ≡ kind_of r.kind → sound_as kind ≡ sound_record r
  unfolding kind_of sound_record
  sound_by_kind kind is = rw is (go (eqb r.kind clock_kind) (eqb r.kind delivery_kind) (eqb r.kind query_kind))
    where
      go : (x y z : Bool) → sound_as (cond x (Some Clock) (cond y (Some Delivery) (cond z (Some Query) None)))
          ≡ cond x (eqb r.second 0 && eqb r.third 0) (cond y true (z && eqb r.third 0))
      go true y z = refl
      go false true z = refl
      go false false true = refl
      go false false false = refl
