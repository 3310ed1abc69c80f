-- The constructor says whether the shape is within its limits.
use Rattle.capi.specs.ToldLaws.{told_words}
use Rattle.capi.proofs.litres_words.Goals as goal

pub returns : goal.returns
returns c =
    let a = c.args in
    told_words a.k a.n a.m a.g c.new.result c.map_or.result c.new.ensures c.map_or.ensures
