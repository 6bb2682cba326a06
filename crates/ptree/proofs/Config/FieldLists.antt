-- The lists of fields contain each field.
use Rattle.std.proofs.Common.{◌≡◌, ◌∙◌, ℕ, true, List, [], ◌∷◌, ◌++◌, length, map, slice_index_or, Contains, refl, ap}
use Rattle.std.proofs.Math.Dec.{ltb}
use Rattle.std.proofs.lemmas.Bool.{ltb-true}
use Rattle.std.proofs.lemmas.List.{get_or-map, length-map}
use Rattle.std.proofs.lemmas.List.Elements.{Contains-append_left, Contains-append_right}
use Rattle.ptree.specs.declared.print_config.fields.Field.{Field}
use Rattle.ptree.specs.declared.print_config.fields.Field.TheVariants.{Depth, Indent, Padding, Styled, Characters, DownAndRight, Down, TurnRight, Right, Empty, Paint, Continued}
use Rattle.ptree.specs.declared.print_config.fields.Part.{Part}
use Rattle.ptree.specs.declared.print_config.fields.Part.TheVariants.{Branch, Leaf}
use Rattle.ptree.specs.declared.print_config.fields.StyleField.{StyleField}
use Rattle.ptree.specs.declared.print_config.fields.StyleField.TheVariants.{Foreground, Background, Bold, Dimmed, Italic, Underline, Blink, Reverse, Hidden, Strikethrough}
use Rattle.ptree.specs.Fields.{all_fields, all_style_fields, HasEach}

-- the element at a place of a list is in it
at : {A : Type 0} (list : List A) (value : A) (place : ℕ) → ltb place (length list) ≡ true → slice_index_or list place value ≡ value → Contains list value
at list value place within found = (place, ltb-true place (length list) within, found)

-- the mapped list contains what a member is mapped to
pub Contains-map : {A B : Type 0} (f : A → B) (list : List A) (value : A) → Contains list value → Contains (map f list) (f value)
Contains-map f list value (place, within, found) =
    (place, rw (length-map list f) within, get_or-map f list place value (f value) within ∙ ap f found)

-- the list of style fields has each
pub each_style_field : HasEach all_style_fields
each_style_field Foreground = at all_style_fields Foreground 0 refl refl
each_style_field Background = at all_style_fields Background 1 refl refl
each_style_field Bold = at all_style_fields Bold 2 refl refl
each_style_field Dimmed = at all_style_fields Dimmed 3 refl refl
each_style_field Italic = at all_style_fields Italic 4 refl refl
each_style_field Underline = at all_style_fields Underline 5 refl refl
each_style_field Blink = at all_style_fields Blink 6 refl refl
each_style_field Reverse = at all_style_fields Reverse 7 refl refl
each_style_field Hidden = at all_style_fields Hidden 8 refl refl
each_style_field Strikethrough = at all_style_fields Strikethrough 9 refl refl

-- the fields of a part's style
abbrev painted : Part → List Field
painted part = map (Paint part) all_style_fields

-- each field of a part's style is among the fields of that style
in_part : (part : Part) (field : StyleField) → Contains (painted part) (Paint part field)
in_part part field = Contains-map (Paint part) all_style_fields field (each_style_field field)

-- the fields before those of styles, and those from the leaves' style on
abbrev before : List Field
before = Depth ∷ Indent ∷ Padding ∷ Styled ∷ Characters ∷ DownAndRight ∷ Down ∷ TurnRight ∷ Right ∷ Empty ∷ []

-- the fields from the leaves' style on
abbrev from_leaf : List Field
from_leaf = painted Leaf ++ Continued ∷ []

-- the list of fields has each
pub each_field : HasEach all_fields
each_field Depth = at all_fields Depth 0 refl refl
each_field Indent = at all_fields Indent 1 refl refl
each_field Padding = at all_fields Padding 2 refl refl
each_field Styled = at all_fields Styled 3 refl refl
each_field Characters = at all_fields Characters 4 refl refl
each_field DownAndRight = at all_fields DownAndRight 5 refl refl
each_field Down = at all_fields Down 6 refl refl
each_field TurnRight = at all_fields TurnRight 7 refl refl
each_field Right = at all_fields Right 8 refl refl
each_field Empty = at all_fields Empty 9 refl refl
each_field (Paint Branch field) =
    let f = Paint Branch field in
    Contains-append_right before (painted Branch ++ from_leaf) f
    (Contains-append_left (painted Branch) from_leaf f (in_part Branch field))
each_field (Paint Leaf field) =
    let f = Paint Leaf field in
    Contains-append_right before (painted Branch ++ from_leaf) f
    (Contains-append_right (painted Branch) from_leaf f
    (Contains-append_left (painted Leaf) (Continued ∷ []) f (in_part Leaf field)))
each_field Continued = at all_fields Continued 30 refl refl
