-- Folding the steps over the bytes is what `read_line` speaks of.
use Rattle.std.proofs.Common.{rules, ◌≡◌, refl, ap, ◌∙◌, subst, List, ℕ, ◌∷◌, []}
use mathlib.Core.List.{foldl, foldl-append}
use Rattle.std.proofs.lemmas.Fn.{fold_over, slice_gives, fronts}
use Rattle.lines.specs.Bytes.{started, stepped, finished, read_line}
use Rattle.lines.proofs.parse.Goals as goal

pub returns : goal.returns
returns c =
    let begin = c.start.result in
    let folded =
    fold_over fronts (λ y. y.now) _ (λ ys a. a ≡ foldl stepped begin ys) _
    (λ ys a x b f' j k. let more = foldl-append stepped begin ys (x.now ∷ []) in search rules)
    _ _ _ _ (slice_gives c.iter.result) refl c.fold.ensures.ran in
    let whole : c.fold.result ≡ foldl stepped started c.args.bytes.now = rw (← c.start.ensures) (subst (λ (l : List ℕ). c.fold.result ≡ foldl stepped begin l) c.iter.ensures.rest folded) in
    c.finish.ensures ∙ ap finished whole ∙ read_line c.args.bytes.now
