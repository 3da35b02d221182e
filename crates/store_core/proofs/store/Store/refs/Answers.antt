use Rattle.std.proofs.Common.{◌≡◌, ℕ, None, Option, Some, rules, ◌∙◌}
use Rattle.sd_base.specs.References.{references_in_book}
use Rattle.store_core.proofs.DropLemmas.{stands-references}
use Rattle.store_core.proofs.store.Store.refs.Goals as goal

pub returns-then-chunk-chunks-clause-state : goal.returns-then-chunk-chunks-clause-state
returns-then-chunk-chunks-clause-state g c = λ files state offered stands.
    let own : ◌≡◌ {A = Option ℕ} (Some c.count.result) (references_in_book c.args.self.now.opened.book.sessions c.args.chunk) =
    search rules in
    own ∙ stands-references g.N.Namer.name_of c.args.self.now files state offered stands c.args.chunk

pub returns-else-chunk-chunks-clause-state : goal.returns-else-chunk-chunks-clause-state
returns-else-chunk-chunks-clause-state g c = λ files state offered stands.
    let own : ◌≡◌ {A = Option ℕ} None (references_in_book c.args.self.now.opened.book.sessions c.args.chunk) =
    search rules in
    own ∙ stands-references g.N.Namer.name_of c.args.self.now files state offered stands c.args.chunk
