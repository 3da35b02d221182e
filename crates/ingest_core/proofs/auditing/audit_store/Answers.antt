use Rattle.std.proofs.Common.{rules, ◌≡◌, ◌∙◌, ℕ, List, IfSome, inl, ap, length, sym, subst}
use Rattle.std.specs.Prelude.{Err, Some}
use Rattle.ingest_core.proofs.AuditContents.{store-flaw, store-flawless}
use Rattle.ingest_core.specs.AuditChunks.{lengths_kept}
use Rattle.sd_base.specs.Books.{chunks_in}
use Rattle.sd_base.specs.Flaws.{AreFlawless, HaveChunks, IsFlawAmong, IsFlawOf, IsMarkFlaw}
use Rattle.sd_base.specs.Opening.{OpenAs, chunk_lengths}
use Rattle.sd_base.specs.Packing.{container_sizes}
use Rattle.store_core.proofs.StoreLemmas.{Told, same-told, told_map}
use Rattle.store_core.specs.declared.fault.StoreFault.TheVariants.{Damaged}
use Rattle.ingest_core.proofs.auditing.audit_store.Goals as goal

pub returns-in_err-check_marks-clause-damaged : goal.returns-in_err-check_marks-clause-damaged
returns-in_err-check_marks-clause-damaged g c damage is =
    let told = g.F.Shelf.files c.args.shelf.now in
    let name_of = g.N.Namer.name_of in
    let opened = c.args.store.now.opened in
    let of = sym c.generation.ensures.generation in
    let many : length (container_sizes (chunk_lengths opened.book)) ≡ c.container_count-containers.result =
    sym (c.container_count-containers.ensures.count
    ∙ ap (λ (ns : List ℕ). length (container_sizes ns)) (c.deref.ensures.value ∙ c.in_ok-lengths.ensures.lengths
    ∙ ap lengths_kept (c.chunks.ensures ∙ ap (λ book. chunks_in book.sessions) c.book-book.ensures.book))) in
    let was : c.check_marks.result ≡ Err (Damaged damage) = search rules in
    told_map {P = λ files. OpenAs files opened → IsMarkFlaw files opened damage}
    {Q = λ files. OpenAs files opened → IsFlawOf name_of files opened (Some damage)} told
    (λ files found opens. inl (found opens)) (c.check_marks.ensures.damaged opened of many damage was)

pub returns-in_err-check_contents-clause-damaged : goal.returns-in_err-check_contents-clause-damaged
returns-in_err-check_contents-clause-damaged g c damage is =
    let told = g.F.Shelf.files c.args.shelf.now in
    let name_of = g.N.Namer.name_of in
    let opened = c.args.store.now.opened in
    let of = sym c.generation.ensures.generation in
    let many : length (container_sizes (chunk_lengths opened.book)) ≡ c.container_count-containers.result =
    sym (c.container_count-containers.ensures.count
    ∙ ap (λ (ns : List ℕ). length (container_sizes ns)) (c.deref.ensures.value ∙ c.in_ok-lengths.ensures.lengths
    ∙ ap lengths_kept (c.chunks.ensures ∙ ap (λ book. chunks_in book.sessions) c.book-book.ensures.book))) in
    let marked = c.in_ok-check_marks.ensures.marked opened of many in
    let back = same-told told (g.F.Shelf.files c.check_marks.new.shelf) c.in_ok-check_marks.ensures.reads.same_files in
    let was : c.check_contents.result ≡ Err (Damaged damage) = search rules in
    store-flaw name_of opened told damage marked
    (λ chunks. subst (λ (held : Told). IfSome held (λ files. HaveChunks files opened chunks → IsFlawAmong name_of opened chunks damage)) back
    (c.check_contents.ensures.damaged chunks damage was))

pub returns-clause-flawless : goal.returns-clause-flawless
returns-clause-flawless g c =
    let told = g.F.Shelf.files c.args.shelf.now in
    let name_of = g.N.Namer.name_of in
    let opened = c.args.store.now.opened in
    let of = sym c.generation.ensures.generation in
    let many : length (container_sizes (chunk_lengths opened.book)) ≡ c.container_count-containers.result =
    sym (c.container_count-containers.ensures.count
    ∙ ap (λ (ns : List ℕ). length (container_sizes ns)) (c.deref.ensures.value ∙ c.in_ok-lengths.ensures.lengths
    ∙ ap lengths_kept (c.chunks.ensures ∙ ap (λ book. chunks_in book.sessions) c.book-book.ensures.book))) in
    let marked = c.in_ok-check_marks.ensures.marked opened of many in
    let back = same-told told (g.F.Shelf.files c.check_marks.new.shelf) c.in_ok-check_marks.ensures.reads.same_files in
    store-flawless name_of opened told marked
    (λ chunks. subst (λ (held : Told). IfSome held (λ files. HaveChunks files opened chunks → AreFlawless name_of opened chunks)) back
    (c.in_ok-check_contents.ensures.flawless chunks))
