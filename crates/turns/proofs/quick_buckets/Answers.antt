-- The slots of the turns and those after them are all slots.
use Rattle.quick_laws.proofs.RowsLaws.{rows_rest}
use Rattle.turns.proofs.quick_buckets.Goals as goal

pub returns : goal.returns
returns c =
    let a = c.args in
    rows_rest a.least a.most a.level.now a.count c.quick_turns-turned.result.rows c.quick_turns-turned.result.at c.join_rows.result _
    c.quick_turns-turned.ensures c.join_rows.ensures c.quick_rest.ensures
