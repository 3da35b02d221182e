use Rattle.backup_top.proofs.Lists.{refs_made, refs_refused}
use Rattle.backup_top.proofs.refs.refs.Goals as goal

pub returns-in-Ok : goal.returns-in-Ok
returns-in-Ok g c =
    refs_made _ _ _ _ _ _ c.in-Ok.store c.text_of_store.result c.in-Ok.ensures c.text_of_store.ensures.text
    c.text_of_store.ensures.refused

pub returns-in-Err : goal.returns-in-Err
returns-in-Err g c = refs_refused _ _ _ _ _ _ c.in-Err.outcome c.in-Err.ensures
