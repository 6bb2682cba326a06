-- What a call leaves in the memory of its caller.
use Rattle.std.specs.Prelude.{◌≡◌, ◌+◌, ℕ, List, ◌++◌, length, take, drop}
use Rattle.ptree_c.specs.declared.room.Found.{Found}

-- the values, as many as there is room for, and then what was there
abbrev pub filled : {A : Type 0} → List A → List A → List A
filled room values = take (length room) values ++ drop (length values) room

-- what a call that is done has found
abbrev pub found_sizes : ℕ → ℕ → Found
found_sizes bytes items = record { bytes = bytes; items = items; place = 0 }

-- the room was filled with these bytes, which end at this place
abbrev pub IsFilled : List ℕ → List ℕ → List ℕ → ℕ → Type 0
IsFilled room bytes out at = (out ≡ filled room bytes) × (at ≡ length bytes)

-- a call has put bytes of which Is holds, as many as there is room for, and has found how many there are, of so many items
abbrev pub HasPut : (List ℕ → Type 0) → ℕ → List ℕ → List ℕ → Found → Type 0
HasPut Is items old new found = (bytes : List ℕ) × Is bytes × (new ≡ filled old bytes) × (found ≡ found_sizes (length bytes) items)

-- bytes were put behind those that end at a place, as many as there is room for, and they end at another place
pub record PutsBytes (bytes old : List ℕ) (at : ℕ) (new : List ℕ) (to : ℕ) : Type 0 where
  pub filled : (room before : List ℕ) → IsFilled room before old at → IsFilled room (before ++ bytes) new to
  pub end : to ≡ at + length bytes
