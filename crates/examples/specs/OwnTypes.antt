-- What folders and lists that are halved mean.
use Rattle.std.specs.Prelude.{ℕ, [], ◌∷◌, ◌/◌, ◌-◌, nat_lt, if◌then◌else◌, decimal, string_bytes}
use Rattle.examples.specs.declared.own_types.Folder.{Folder, out-Folder}
use Rattle.ptree.specs.Item.{text_shape}
use Rattle.ptree.specs.Shape.{Shape}

-- a folder as an item: its name, over the folders in it
abbrev pub folder_shape : Folder → Shape
folder_shape = text_shape (λ f. string_bytes (out-Folder f).name) (λ f. (out-Folder f).folders.items)

-- a list of so many elements as an item: its length's digits, over its two halves
abbrev pub halved_shape : ℕ → Shape
halved_shape = text_shape decimal (λ n. if nat_lt n 2 then [] else n / 2 ∷ (n - n / 2) ∷ [])
