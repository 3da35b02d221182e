use Rattle.std.proofs.Common.{rules, ◌≡◌, ◌++◌, List, ap, ◌∙◌}
use Rattle.std.specs.List.{position}
use Rattle.std.specs.Str.{bytes_eq}
use Rattle.sd_base.specs.Books.{chunks_in}
use Rattle.sd_base.specs.declared.record.NewChunk.{NewChunk}
use Rattle.store_core.specs.StoreFields.{names_of}
use Rattle.store_core.specs.StoreStates.{chunks_of_store}
use Rattle.store_core.proofs.store.Store.first_named.Goals as goal

pub returns : goal.returns
returns g c = record {
  unchanged = search rules;
  some = search rules;
  first =
      let all = c.chunks.result.now ++ c.deref.result.now in
      let is : all ≡ chunks_of_store c.args.self.now = ap (λ (l : List NewChunk). l ++ c.deref.result.now) c.chunks.ensures
      ∙ ap (λ (l : List NewChunk). chunks_in c.self.inside.book.sessions ++ l) c.deref.ensures.value
      ∙ ap chunks_of_store c.self.view_is in
      c.find.ensures (names_of all) c.in_ok-add_names.ensures.all
      ∙ ap (λ (l : List NewChunk). position (bytes_eq c.args.name.now) (names_of l)) is;
}

pub returns-in_err-add_names : goal.returns-in_err-add_names
returns-in_err-add_names g c = search rules
