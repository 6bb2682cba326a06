-- Painted texts.
use Rattle.std.proofs.Common.{◌≡◌, ◌≢◌, ℕ, ◌<◌, Bool, false, Option, Some, None, List, [], ◌∷◌, ◌++◌, refl, ap, ◌∙◌, arith}
use Rattle.std.specs.Prelude.{⊤, flat_map, IsUtf8, option_map, option_to_list}
use Rattle.std.proofs.lemmas.List.{append-nil}
use Rattle.std.proofs.lemmas.List.Elements.{All-nil, All-cons, All-weaker}
use Rattle.std.proofs.lemmas.Str.{IsUtf8-from_ascii}
use Rattle.std.proofs.lemmas.Str.Ascii.{IsAscii-from_all}
use Rattle.ptree.specs.Texts.{HasNoLineFeed}
use Rattle.ptree.specs.Color.{ColorValue}
use Rattle.ptree.specs.declared.style.tone.Side.{Side}
use Rattle.ptree.specs.declared.style.tone.Side.TheVariants.{Foreground, Background}
use Rattle.ptree.specs.Style.{StyleValue, plain_value, code, flags, flag_codes, side_codes, SetsNone, IsPlain, style_codes, reset_after, start_codes, end_codes, painted_text}
use Rattle.ptree.proofs.Styles.CodeBytes.{IsCodeByte, start_codes_are_code_bytes}

-- the plain style has no code
pub plain_codes : style_codes plain_value ≡ []
unfolding style_codes
plain_codes = refl

-- a style without codes leaves a text as it is
pub painted_plain : (style : StyleValue) (text : List ℕ) → style_codes style ≡ [] → painted_text style text ≡ text
painted_plain style text h =
    ap (λ codes. flat_map (λ code. code) codes ++ text ++ reset_after codes) h ∙ append-nil text

-- no flag is set
abbrev AreUnset : List (Bool × ℕ) → Type 0
AreUnset [] = ⊤
AreUnset (f ∷ fs) = (f.0 ≡ false) × AreUnset fs

-- flags that are not set have no codes
none_set : (fs : List (Bool × ℕ)) → AreUnset fs → flag_codes fs ≡ []
none_set [] h = refl
none_set (f ∷ fs) h = ap (λ b. flag_codes ((b, f.1) ∷ fs)) h.0 ∙ none_set fs h.1

-- a colour that sets nothing has no code
sets_none : (color : Option ColorValue) (side : Side) → SetsNone color side → side_codes color side ≡ []
sets_none None side h = refl
sets_none (Some c) side h = ap (λ o. option_to_list (option_map code o)) h

-- a style that sets nothing has no codes
pub no_codes : (style : StyleValue) → IsPlain style → style_codes style ≡ []
unfolding style_codes
no_codes style h =
    ap (λ cs. cs ++ side_codes style.foreground Foreground ++ side_codes style.background Background)
    (none_set (flags style) (h.bold, (h.dimmed, (h.italic, (h.underline, (h.blink, (h.reverse, (h.hidden, (h.strikethrough, tt)))))))))
    ∙ ap (λ cs. cs ++ side_codes style.background Background) (sets_none style.foreground Foreground h.foreground) ∙ sets_none style.background Background h.background

-- a reset holds no line feed
no_line_feed_reset : (codes : List (List ℕ)) → HasNoLineFeed (reset_after codes)
no_line_feed_reset [] = All-nil (λ b. b ≢ 10)
no_line_feed_reset (code ∷ codes) =
    All-cons (λ b. b ≢ 10) 27 (91 ∷ 48 ∷ 109 ∷ []) (omega arith) (All-cons (λ b. b ≢ 10) 91 (48 ∷ 109 ∷ []) (omega arith) (All-cons (λ b. b ≢ 10) 48 (109 ∷ []) (omega arith) (All-cons (λ b. b ≢ 10) 109 [] (omega arith) (All-nil (λ b. b ≢ 10)))))

-- the codes after a painted text hold no line feed
pub no_line_feed_end : (style : StyleValue) → HasNoLineFeed (end_codes style)
no_line_feed_end style = no_line_feed_reset (style_codes style)

-- the codes before a painted text hold no line feed
pub no_line_feed_start : (style : StyleValue) → HasNoLineFeed (start_codes style)
no_line_feed_start style = All-weaker IsCodeByte (λ b. b ≢ 10) (λ b h. omega arith) (start_codes style) (start_codes_are_code_bytes style)

-- the codes before a painted text are UTF-8
pub IsUtf8-start_codes : (style : StyleValue) → IsUtf8 (start_codes style)
IsUtf8-start_codes style =
    IsUtf8-from_ascii (start_codes style) (IsAscii-from_all (start_codes style) (All-weaker IsCodeByte (λ b. b < 128) (λ b h. h.0) (start_codes style) (start_codes_are_code_bytes style)))
