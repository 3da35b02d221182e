use Rattle.backup_top.proofs.Drops.{drop_made, drop_refused}
use Rattle.backup_top.proofs.dropping.drop_session.Goals as goal

pub returns-in-Ok : goal.returns-in-Ok
returns-in-Ok g c = drop_made c.args.name.now _ _ _ _ _ _ _ c.in-Ok.store c.in-Ok.ensures c.drop_from.result c.drop_from.ensures

pub returns-in-Err : goal.returns-in-Err
returns-in-Err g c = drop_refused c.args.name.now _ _ _ _ _ _ c.in-Err.outcome c.in-Err.ensures
