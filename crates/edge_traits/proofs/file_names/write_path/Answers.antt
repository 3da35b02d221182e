use Rattle.std.proofs.Common.{rules, ◌≡◌, List, ℕ, [], OnOk, string_bytes, subst}
use Rattle.edge_traits.proofs.Paths.{path_of_container}
use Rattle.edge_traits.proofs.file_names.write_path.Goals as goal

pub returns-in-Container : goal.returns-in-Container
returns-in-Container c =
    let named : ¬ (c.args.folder.now ≡ []) = λ e. search rules in
    subst (λ (l : List ℕ). OnOk c.write-in-Container.result (string_bytes c.write-in-Container.new.self ≡ l))
    (path_of_container _ _ _ _ _ c.clear.ensures.bytes c.in-Container.is named) c.write-in-Container.ensures.bytes
