-- The path of a container, as it is written and as it is defined.
use Rattle.std.proofs.Common.{◌≡◌, ℕ, List, [], ◌∷◌, ◌++◌, sym, ◌∙◌, ap, append_assoc}
use Rattle.std.specs.Prelude.{codes, refl}
use Rattle.std.specs.Fmt.{decimal}
use Rattle.sd_base.specs.declared.file.File.{File}
use Rattle.sd_base.specs.declared.file.File.TheVariants.{Container}
use Rattle.edge_traits.specs.FileNames.{file_name, path_in}

container_name : (generation number : ℕ) → codes "container." ++ (decimal generation ++ (codes "." ++ decimal number)) ≡ file_name (Container generation number)
container_name generation number = simp append_assoc

container_path : (folder : List ℕ) (generation number : ℕ) → ¬ (folder ≡ [])
    → folder ++ (codes "/container." ++ (decimal generation ++ (codes "." ++ decimal number))) ≡ path_in folder (Container generation number)
container_path [] generation number named = absurd (named refl)
container_path (first ∷ rest) generation number named =
    sym (append_assoc (first ∷ rest) (codes "/") (codes "container." ++ (decimal generation ++ (codes "." ++ decimal number))))
    ∙ ap (λ (l : List ℕ). (first ∷ rest) ++ codes "/" ++ l) (container_name generation number)

pub path_of_container : (folder before : List ℕ) (file : File) (generation number : ℕ) → before ≡ [] → file ≡ Container generation number → ¬ (folder ≡ [])
    → before ++ (folder ++ (codes "/container." ++ (decimal generation ++ (codes "." ++ decimal number)))) ≡ path_in folder file
path_of_container folder before file generation number empty is named =
    ap (λ (l : List ℕ). l ++ (folder ++ (codes "/container." ++ (decimal generation ++ (codes "." ++ decimal number))))) empty
    ∙ container_path folder generation number named ∙ ap (λ (f : File). path_in folder f) (sym is)
