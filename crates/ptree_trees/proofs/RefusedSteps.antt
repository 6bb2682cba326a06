-- The first path to a float or a date in a list or in members.
use Rattle.std.proofs.Common.{List, Option, String, Global, map, refl, subst, ◌≡◌, true, false}
use Rattle.std.specs.List.Sorted.{IsStrictlySortedBy}
use Rattle.std.specs.Map.{keys_of}
use Rattle.std.specs.String.{string_cmp}
use Rattle.serde_json.specs.Data as j
use Rattle.serde_json.specs.Find as json_find
use Rattle.serde_json.specs.View as json_view
use Rattle.serde_json.specs.declared.value.Value as json_value
use Rattle.toml.specs.Data as t
use Rattle.toml.specs.View as toml_view
use Rattle.toml.specs.declared.value.Value as toml_value
use Rattle.ptree_trees.specs.RefusedPath.{Path, json_at_step, IsFloat, IsFirstFloat, toml_at_step, IsFloatOrDate, IsFirstFloatOrDate}
use Rattle.ptree_trees.specs.RefusedWalk.{element_rows, member_rows, IsFirstIn}
use Rattle.ptree_trees.proofs.RefusedRows.{first_in_list, first_in_members}

-- the first float in a list of JSON
pub first_in_json_list : (vs us : List json_value.Value) (path : Option Path) → vs ≡ us → IsFirstIn json_at_step IsFloat (element_rows 0 (map json_view.view vs)) path
    → IsFirstFloat (j.array (json_view.items_view us)) path
first_in_json_list vs us path is h =
    subst (λ ws. IsFirstFloat (j.array (json_view.items_view ws)) path) is (first_in_list json_at_step IsFloat (λ n ds. json_find.get_item n (json_view.items_of ds)) (λ n. refl) (λ d ds. refl) (λ n d ds. refl)
    (j.array (json_view.items_view vs)) (map json_view.view vs) path (λ is. is) (λ n. refl) (λ k. refl) h)

-- the first float in an object of JSON
pub first_in_json_members : (ms : List (String Global × json_value.Value)) (path : Option Path) → IsStrictlySortedBy string_cmp (keys_of ms)
    → IsFirstIn json_at_step IsFloat (member_rows json_view.view ms) path → IsFirstFloat (j.object (json_view.members_view ms)) path
first_in_json_members ms path sorted h =
    first_in_members json_at_step IsFloat json_view.view (λ k ms. json_find.get_member k (json_view.members_view ms)) (λ k. refl) (λ k m ms. refl)
    (j.object (json_view.members_view ms)) ms path sorted (λ is. is) (λ k. refl) (λ n. refl) h

-- the first float or date in a list of TOML
pub first_in_toml_list : (vs us : List toml_value.Value) (path : Option Path) → vs ≡ us → IsFirstIn toml_at_step IsFloatOrDate (element_rows 0 (map toml_view.view vs)) path
    → IsFirstFloatOrDate (t.array (toml_view.items_view us)) path
first_in_toml_list vs us path is h =
    subst (λ ws. IsFirstFloatOrDate (t.array (toml_view.items_view ws)) path) is (first_in_list toml_at_step IsFloatOrDate (λ n ds. t.get_item n (toml_view.items_of ds)) (λ n. refl) (λ d ds. refl) (λ n d ds. refl)
    (t.array (toml_view.items_view vs)) (map toml_view.view vs) path (λ is. is) (λ n. refl) (λ k. refl) h)

-- the first float or date in a table of TOML
pub first_in_toml_members : (ms : List (String Global × toml_value.Value)) (path : Option Path) → IsStrictlySortedBy string_cmp (keys_of ms)
    → IsFirstIn toml_at_step IsFloatOrDate (member_rows toml_view.view ms) path → IsFirstFloatOrDate (t.table (toml_view.members_view ms)) path
first_in_toml_members ms path sorted h =
    first_in_members toml_at_step IsFloatOrDate toml_view.view (λ k ms. t.get_member k (toml_view.members_view ms)) (λ k. refl) (λ k m ms. refl)
    (t.table (toml_view.members_view ms)) ms path sorted (λ is. is) (λ k. refl) (λ n. refl) h

-- a number that is a float
pub float_here : (n : j.Num) → json_find.is_float n ≡ true → IsFloat (j.number n)
float_here (j.unsigned n) e = absurd (cc)
float_here (j.negative z) e = absurd (cc)
float_here (j.float x) e = tt

-- a number that is none
pub no_float_here : (n : j.Num) → json_find.is_float n ≡ false → ¬ (IsFloat (j.number n))
no_float_here (j.unsigned n) e = λ is. is
no_float_here (j.negative z) e = λ is. is
no_float_here (j.float x) e = absurd (cc)
