-- All faults begin with the first one.
use Rattle.std.proofs.Common.{◌≡◌, ◌++◌, List, [], ◌∷◌, map, Option, Some, None, refl}
use Rattle.std.specs.Prelude.{flat_map, slice_get}
use Rattle.std.specs.Option.{option_or}
use Rattle.ptree.specs.declared.print_config.fields.Field.{Field}
use Rattle.ptree.specs.declared.print_config.fields.Part.TheVariants.{Branch, Leaf}
use Rattle.ptree.specs.declared.print_config.loader.Fault.{Fault}
use Rattle.ptree.specs.AllFaults.{listed, field_faults, faults_in}
use Rattle.ptree.specs.Fields.{all_fields}
use Rattle.ptree.specs.Loading.{first_of, field_fault, variable_fault, key_fault, table_fault, fault_in}
use Rattle.ptree.specs.Sources.{Given}

-- the first of two values and a list
front_of_two : (v k : Option Fault) (xs : List Fault) (r : Option Fault) → slice_get xs 0 ≡ r → slice_get ((listed v ++ listed k) ++ xs) 0 ≡ option_or (option_or v k) r
front_of_two None None xs r e = e
front_of_two None (Some k) xs r e = refl
front_of_two (Some v) k xs r e = refl

-- the first fault of the fields
front_of_fields : (given : Given) (fields : List Field) → slice_get (flat_map (field_faults given) fields) 0 ≡ first_of (map (field_fault given) fields)
front_of_fields given [] = refl
front_of_fields given (f ∷ fs) =
    front_of_two (variable_fault given f) (key_fault given f) (flat_map (field_faults given) fs) (first_of (map (field_fault given) fs)) (front_of_fields given fs)

-- the first of three values and a list
front_of_three : (a b c : Option Fault) (xs : List Fault) (r : Option Fault) → slice_get xs 0 ≡ r
    → slice_get (((listed a ++ listed b) ++ listed c) ++ xs) 0 ≡ option_or a (option_or b (option_or c r))
front_of_three None None None xs r e = e
front_of_three None None (Some c) xs r e = refl
front_of_three None (Some b) c xs r e = refl
front_of_three (Some a) b c xs r e = refl

-- the first of all faults is the first fault
pub front_of_faults : (file : Option Fault) (given : Given) → slice_get (faults_in file given) 0 ≡ fault_in file given
unfolding faults_in fault_in
front_of_faults file given =
    front_of_three file (table_fault given Branch) (table_fault given Leaf) (flat_map (field_faults given) all_fields)
    (first_of (map (field_fault given) all_fields)) (front_of_fields given all_fields)
