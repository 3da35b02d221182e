use Rattle.std.proofs.Common.{sym, subst}
use Rattle.sd_base.specs.Books.{IsReplayedOn, MayFollow}
use Rattle.sd_base.specs.declared.record.Record.TheVariants.{Ingest, Drop}
use Rattle.session_book.proofs.Replaying.{adding, replayed_on}
use Rattle.session_book.proofs.book.Book.add.Goals as goal

pub returns-in-Ingest-clause-replayed : goal.returns-in-Ingest-clause-replayed
returns-in-Ingest-clause-replayed c =
    rw c.in-Ingest.is (replayed_on c.args.self.now c.ingest.new.self (Ingest c.in-Ingest.entry) c.ingest.result c.ingest.ensures.lawful (subst (MayFollow c.args.self.now.max c.args.self.now.sessions) c.in-Ingest.is c.requires.follows) c.ingest.ensures.added)

pub returns-in-Drop-clause-replayed : goal.returns-in-Drop-clause-replayed
returns-in-Drop-clause-replayed c =
    rw c.in-Drop.is (subst (IsReplayedOn c.args.self.now (Drop c.in-Drop.session)) (sym c.drop_session.ensures.dropped) (adding c.args.self.now (Drop c.in-Drop.session) c.drop_session.ensures.lawful (subst (MayFollow c.args.self.now.max c.args.self.now.sessions) c.in-Drop.is c.requires.follows)))
