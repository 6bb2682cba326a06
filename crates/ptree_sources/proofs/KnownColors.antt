-- A name of a colour is known exactly if a style of it has a code.
use Rattle.std.proofs.Common.{◌≡◌, ◌∙◌, ◌<◌, ℕ, true, false, List, [], ◌++◌, Option, Some, None, option_map, length, refl, ap, sym, string_bytes, arith, String, Global}
use Rattle.std.specs.Prelude.{is_some, flat_map, option_to_list}
use Rattle.ptree.specs.Color.{named_tone, tone_parameters}
use Rattle.ptree.specs.Style.{style_of, plain_style, painted_text, style_codes, code, reset_after}
use Rattle.ptree.specs.declared.style.tone.Side.TheVariants.{Foreground}
use Rattle.ptree.specs.declared.style.tone.Tone.{Tone}
use Rattle.ptree.specs.declared.style.Style.{Style}
use Rattle.ptree.specs.declared.style.color.Color.TheVariants.{Named}
use Rattle.ptree_sources.specs.Warnings.{is_known_name}

-- what is painted in a style of a tone
abbrev painted_by : Option Tone → List ℕ
painted_by tone =
    let found = option_to_list (option_map code (option_map (tone_parameters Foreground) tone)) in
    flat_map (λ c. c) (([] ++ found) ++ []) ++ [] ++ reset_after (([] ++ found) ++ [])

-- with the name of a colour as its only field, a style paints by the name's tone
painted_named : (name : String Global) (style : Style) → style ≡ plain_style
    → painted_text (style_of (record style { foreground = Some (Named name) })) [] ≡ painted_by (named_tone (string_bytes name))
unfolding style_codes
painted_named name style e = ap (λ s. painted_text (style_of (record s { foreground = Some (Named name) })) []) e

-- a tone whose code is empty is none
none_if_empty : (tone : Option Tone) → length (painted_by tone) ≡ 0 → false ≡ is_some tone
none_if_empty None h = refl
none_if_empty (Some tone) h = absurd (omega (arith, h))

-- a tone whose code is not empty is one
some_if_not : (tone : Option Tone) → 0 < length (painted_by tone) → true ≡ is_some tone
some_if_not None h = absurd (omega (arith, h))
some_if_not (Some tone) h = refl

-- nothing is painted, so the name is not known
pub no_code : (name : String Global) (known text : List ℕ) (style : Style) → string_bytes name ≡ known → style ≡ plain_style
    → text ≡ painted_text (style_of (record style { foreground = Some (Named name) })) [] → length text ≡ 0 → false ≡ is_known_name known
unfolding is_known_name
no_code name known text style is plain paint empty =
    none_if_empty (named_tone (string_bytes name)) (ap length (sym (paint ∙ painted_named name style plain)) ∙ empty) ∙ ap (λ n. is_some (named_tone n)) is

-- something is painted, so the name is known
pub some_code : (name : String Global) (known text : List ℕ) (style : Style) → string_bytes name ≡ known → style ≡ plain_style
    → text ≡ painted_text (style_of (record style { foreground = Some (Named name) })) [] → 0 < length text → true ≡ is_known_name known
unfolding is_known_name
some_code name known text style is plain paint some =
    some_if_not (named_tone (string_bytes name)) (omega (arith, some, ap length (paint ∙ painted_named name style plain))) ∙ ap (λ n. is_some (named_tone n)) is
