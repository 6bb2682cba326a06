-- Names of colours: the code's tables are those of the definitions.
use Rattle.std.proofs.Common.{◌≡◌, ℕ, Bor, Bool, true, false, cond, List, [], ◌∷◌, map, Option, Some, None, refl, ap, sym, ◌∙◌, arith, length-drop, subst, get_or, ◌-◌, ◌&&◌, ◌==◌, eqb-true}
use Rattle.std.proofs.lemmas.Bool.{and_parts}
use Rattle.std.proofs.lemmas.Grind.{get_or_after_one}
use Rattle.std.proofs.lemmas.List.Sums.{AllPass-from_list_all}
use Rattle.std.specs.Prelude.{find, option_map, position, bytes_eq, slice_index, drop, length, IfSome, ◌+◌, ◌<◌, MatchOption, IsSomeAnd, if◌then◌else◌}
use Rattle.std.specs.Option.{option_or}
use Rattle.std.specs.List.{list_all}
use Rattle.std.specs.Char.{is_ascii_hexdigit}
use Rattle.std.proofs.lemmas.List.Quantifiers.{position-Some}
use Rattle.std.specs.Str.{str_eq_ignore_ascii_case}
use Rattle.ptree.specs.declared.style.tone.Tone.{Tone}
use Rattle.ptree.specs.declared.style.tone.Tone.TheVariants.{Eight, Direct}
use Rattle.ptree.specs.Color.{NamedColor, named_color, named_colors, basic_names, basic_tone, is_hex_name, hex_tone, table_tone, named_tone}
use Rattle.ptree.specs.Codes.{IsOfEight, HasHexDigits}

-- the result of `map` whose closure computes f
pub mapped : {X Y : Type 0} (f : X → Y) (P : X → Y → Type 0) → ((x : X) (y : Y) → P x y → y ≡ f x) → (o : Option X) (r : Option Y)
    → MatchOption o (r ≡ None) (λ x. IsSomeAnd r (P x)) → r ≡ option_map f o
mapped f P h None r e = e
mapped f P h (Some x) None e = absurd e
mapped f P h (Some x) (Some y) e = ap Some (h x y e)

-- two maps over an option are one
pub option_map-option_map : {X Y Z : Type 0} (f : Y → Z) (h : X → Y) (o : Option X) → option_map f (option_map h o) ≡ option_map (λ x. f (h x)) o
option_map-option_map f h None = refl
option_map-option_map f h (Some x) = refl

-- a function of a choice is the choice of the function
option_map-cond : {X Y : Type 0} (f : X → Y) (b : Bool) (x : X) (o : Option X) → option_map f (cond b (Some x) o) ≡ cond b (Some (f x)) (option_map f o)
option_map-cond f true x o = refl
option_map-cond f false x o = refl

-- the result of a search in a table whose entries stand for others
find-map : {X Y Z : Type 0} (p : Y → Bool) (h : X → Y) (f : Y → Z) (xs : List X) → option_map (λ x. f (h x)) (find (λ x. p (h x)) xs) ≡ option_map f (find p (map h xs))
find-map p h f [] = refl
find-map p h f (x ∷ xs) =
    option_map-cond (λ x. f (h x)) (p (h x)) x (find (λ x. p (h x)) xs)
    ∙ ap (cond (p (h x)) (Some (f (h x)))) (find-map p h f xs) ∙ sym (option_map-cond f (p (h x)) (h x) (find p (map h xs)))

-- the result of a search in a table that holds the names and bytes of the definition
pub table_found : (name : List ℕ) (table : List (Bor (List ℕ) × ℕ × ℕ × ℕ)) → map (λ c. named_color c.0.now c.1 c.2 c.3) table ≡ named_colors
    → option_map (λ c. Direct c.1 c.2 c.3) (find (λ c. str_eq_ignore_ascii_case c.0.now name) table) ≡ table_tone name
table_found name table e =
    find-map (λ c. str_eq_ignore_ascii_case c.name name) (λ c. named_color c.0.now c.1 c.2 c.3) (λ c. Direct c.red c.green c.blue) table
    ∙ ap (λ cs. option_map (λ c. Direct c.red c.green c.blue) (find (λ c. str_eq_ignore_ascii_case c.name name) cs)) e

-- the place of a word is less than eight
basic_is_of_eight : (o : Option ℕ) → IfSome o (λ k. k < 8) → IfSome (option_map Eight o) IsOfEight
basic_is_of_eight None h = tt
basic_is_of_eight (Some k) h = h

-- the place of a found element is within the list
position_within : {X : Type 0} (p : X → Bool) (xs : List X) (d : X) (o : Option ℕ) → position p xs ≡ o → IfSome o (λ k. k < length xs)
position_within p xs d None e = tt
position_within p xs d (Some k) e = (position-Some p xs k d e).0

-- if two options meet the condition, so does the first that has a value
either_is_of_eight : (a b : Option Tone) → IfSome a IsOfEight → IfSome b IsOfEight → IfSome (option_or a b) IsOfEight
either_is_of_eight None b h k = k
either_is_of_eight (Some t) b h k = h

-- a colour of three bytes meets the condition, whatever the bytes
hex_is_of_eight : (b : Bool) (r g bl : ℕ) → IfSome (if b then Some (Direct r g bl) else None) IsOfEight
hex_is_of_eight true r g bl = tt
hex_is_of_eight false r g bl = tt

-- so does a colour of the table of names
found_is_of_eight : (o : Option NamedColor) → IfSome (option_map (λ c. Direct c.red c.green c.blue) o) IsOfEight
found_is_of_eight None = tt
found_is_of_eight (Some c) = tt

-- a name that means a colour of the eight means one of them
pub named_is_of_eight : (name : List ℕ) → IfSome (named_tone name) IsOfEight
unfolding named_tone
named_is_of_eight name =
    either_is_of_eight (basic_tone name) (option_or (hex_tone name) (table_tone name))
    (basic_is_of_eight _ (position_within (λ word. bytes_eq word name) basic_names [] _ refl))
    (either_is_of_eight (hex_tone name) (table_tone name) (hex_is_of_eight (is_hex_name name) _ _ _) (found_is_of_eight _))

-- one of the digits after `#`
digit_at : (name : List ℕ) (i j : ℕ) → j ≡ 1 + i → j < length name → list_all is_ascii_hexdigit (drop 1 name) ≡ true → is_ascii_hexdigit (slice_index name j) ≡ true
digit_at name i j e l h =
    let lt : i < length (drop 1 name) = simp length-drop (omega arith) in
    subst (λ b. is_ascii_hexdigit b ≡ true) (get_or_after_one name i 0 ∙ ap (λ k. get_or name k 0) (sym e)) (AllPass-from_list_all is_ascii_hexdigit (drop 1 name) h i 0 lt)

-- where the two digits of a hexadecimal name are
pub hex_digits_at : (name : List ℕ) (i : ℕ) → true ≡ is_hex_name name → 0 < i → i < 6 → HasHexDigits name i
hex_digits_at name i h z l =
    let parts = and_parts ((length name == 7) && (slice_index name 0 == 35)) (list_all is_ascii_hexdigit (drop 1 name)) (sym h) in
    let seven : length name ≡ 7 = eqb-true _ _ (and_parts (length name == 7) (slice_index name 0 == 35) parts.0).0 in
    record {
      room = omega arith;
      high = digit_at name (i - 1) i (omega arith) (omega arith) parts.1;
      low = digit_at name i (i + 1) (omega arith) (omega arith) parts.1;
    }
