-- Texts of floats have no blank.
use Rattle.std.proofs.Common.{◌≡◌, ℕ, suc, ◌+◌, ◌<◌, Bool, true, false, ◌==◌, ◌||◌, cond, ◌&&◌, if◌then◌else◌, List, [], ◌∷◌, ◌++◌, drop, get_or, Float, Option, Some, None, option_and_then, is_nan, codes, MatchBool, nat_lt, refl, sym, ap, ap₂, ◌∙◌, subst, inl, inr, append-nil, arith}
use Rattle.std.proofs.lemmas.Bool.Decides.{nat_tests}
use Rattle.std.proofs.lemmas.List.Folds.{list_all-append}
use Rattle.std.specs.Char.{is_ascii_digit}
use Rattle.std.specs.Coded.{Coded-set, coded_bool, coded_option, ×_prop}
use Rattle.std.specs.Fmt.{sign_text}
use Rattle.std.specs.Float.{float_is_finite, is_sign_negative}
use Rattle.std.specs.Float.Numeral.{Parts, exponent_text, text_of, IsWellFormed}
use Rattle.std.specs.List.{list_all, prefix_len}
use Rattle.std.specs.Str.Parse.{AllDigits}
use base.Stored.{coded_float}
use mathlib.Core.Logic.{∥∥₁_elim}
use Rattle.serde_json.specs.Data.{unsigned, negative, float, Num, Data, number}
use Rattle.serde_json.specs.Events.{SendsValue}
use Rattle.serde_json.specs.Number.{num_of, is_valid}
use Rattle.serde_json.specs.Read.{number_of, read}
use Rattle.serde_json.specs.Sent.{State, number_token, start, Follows, TakesFloat, ReadsAsDouble, IsTextOf}
use Rattle.serde_json.specs.declared.number.N.{N}
use Rattle.serde_json.specs.declared.number.N.TheVariants as n
use Rattle.serde_json.proofs.FreeTexts.{text_of_value}
use Rattle.serde_json.proofs.OnLiterals.{serde_json_on_literals}
use Rattle.toml.specs.Data as toml
use Rattle.toml.specs.Text.{IsValueText}
use Rattle.ptree_trees.specs.WrittenDocument.{HasNoBlank, IsJsonText}

append_blankless : (a b : List ℕ) → HasNoBlank a → HasNoBlank b → HasNoBlank (a ++ b)
append_blankless a b h k = list_all-append (nat_lt 32) a b ∙ ap₂ ◌&&◌ h k

digits_blankless : (ds : List ℕ) → AllDigits 10 ds → HasNoBlank ds
digits_blankless [] h = refl
digits_blankless (d ∷ ds) h = let rest = digits_blankless ds h.1 in grind (arith, h.0, rest, nat_tests)

sign_blankless : (b : Bool) → HasNoBlank (sign_text b)
sign_blankless b = grind arith

point_blankless : (b : Bool) (ds : List ℕ) → HasNoBlank ds → HasNoBlank (if b then 46 ∷ ds else [])
point_blankless b ds h = grind arith

exponent_blankless : (b : Bool) (ds : List ℕ) → HasNoBlank ds → HasNoBlank (exponent_text b ds)
exponent_blankless b [] h = refl
exponent_blankless b (d ∷ ds) h = append_blankless (sign_text b) (d ∷ ds) (sign_blankless b) h

-- a numeral has none
numeral_blankless : (b : Bool) (p : Parts) → IsWellFormed p → HasNoBlank (sign_text b ++ text_of p)
numeral_blankless b p h =
    let ends = append_blankless (if p.point then 46 ∷ p.fraction else []) (exponent_text p.exponent_negative p.exponent) (point_blankless p.point p.fraction (digits_blankless p.fraction h.fraction_digits)) (exponent_blankless p.exponent_negative p.exponent (digits_blankless p.exponent h.exponent_digits)) in
    append_blankless (sign_text b) (text_of p) (sign_blankless b) (append_blankless p.whole ((if p.point then 46 ∷ p.fraction else []) ++ exponent_text p.exponent_negative p.exponent) (digits_blankless p.whole h.whole_digits) ends)

finite_or_name : {A : Type 0} (finite nan below : Bool) (text : List ℕ) → MatchBool finite A (text ≡ (if nan then codes "nan" else if below then codes "-inf" else codes "inf")) → (A → HasNoBlank text) → HasNoBlank text
finite_or_name true nan below text h numeral = numeral h
finite_or_name false nan below text h numeral = grind (arith, h)

-- the text of a TOML float has none
pub toml_float : (x : Float) (text : List ℕ) → IsValueText false (toml.float x) text → HasNoBlank text
toml_float x text h = finite_or_name (float_is_finite x) (is_nan x) (is_sign_negative x) text h (λ p. subst HasNoBlank (sym p.0.2) (numeral_blankless p.0.0 p.0.1 p.0.3.well_formed))

-- ---- JSON

-- a text has no blank where none is behind a character or digits
one_more : (s : List ℕ) → 32 < get_or s 0 32 → HasNoBlank (drop 1 s) → HasNoBlank s
one_more [] above h = refl
one_more (d ∷ ds) above h = grind (arith, above, h, nat_tests)

digits_step : (b : Bool) (n d : ℕ) (ds : List ℕ) → is_ascii_digit d ≡ b → (HasNoBlank (drop n ds) → HasNoBlank ds) → HasNoBlank (drop (cond b (1 + n) 0) (d ∷ ds)) → HasNoBlank (d ∷ ds)
digits_step true n d ds digit more h =
    let e : 1 + n ≡ suc n = omega arith in
    let rest = more (subst (λ k. HasNoBlank (drop k (d ∷ ds))) e h) in
    grind (arith, digit, rest, nat_tests)
digits_step false n d ds other more h = h

digits_before : (s : List ℕ) → HasNoBlank (drop (prefix_len is_ascii_digit s) s) → HasNoBlank s
digits_before [] h = refl
digits_before (d ∷ ds) h = digits_step (is_ascii_digit d) (prefix_len is_ascii_digit ds) d ds refl (digits_before ds) h

-- a text has no blank where what a part of a number leaves of it has none
abbrev Keeps : Option (List ℕ) → List ℕ → Type 0
Keeps left s = (rest : List ℕ) → left ≡ Some rest → HasNoBlank rest → HasNoBlank s

all_kept : (s : List ℕ) → Keeps (Some s) s
all_kept s rest e word = cc

first_kept : (o : Option (List ℕ)) (s : List ℕ) → 32 < get_or s 0 32 → Keeps o (drop 1 s) → Keeps o s
first_kept o s above h rest e word = one_more s above (h rest e word)

either_kept : (b : Bool) (o p : Option (List ℕ)) (s : List ℕ) → (b ≡ true → Keeps o s) → Keeps p s → Keeps (cond b o p) s
either_kept true o p s h k = h refl
either_kept false o p s h k = k

sign_kept : (f : List ℕ → Option (List ℕ)) (b : Bool) (s : List ℕ) → ((t : List ℕ) → Keeps (f t) t) → (b ≡ true → 32 < get_or s 0 32) → Keeps (f (cond b (drop 1 s) s)) s
sign_kept f true s h above = first_kept (f (drop 1 s)) s (above refl) (h (drop 1 s))
sign_kept f false s h above = h s

next_kept : (f : List ℕ → Option (List ℕ)) (o : Option (List ℕ)) (s : List ℕ) → Keeps o s → ((t : List ℕ) → Keeps (f t) t) → Keeps (option_and_then f o) s
next_kept f None s first next rest e word = absurd cc
next_kept f (Some t) s first next rest e word = first t refl (next t rest e word)

-- the parts of a JSON number, as the crate `json` has them
abbrev after_digits : List ℕ → Option (List ℕ)
after_digits s = cond (prefix_len is_ascii_digit s == 0) None (Some (drop (prefix_len is_ascii_digit s) s))

abbrev after_whole : List ℕ → Option (List ℕ)
after_whole s = cond (get_or s 0 32 == 48) (Some (drop 1 s)) (after_digits s)

abbrev after_fraction : List ℕ → Option (List ℕ)
after_fraction s = cond (get_or s 0 32 == 46) (after_digits (drop 1 s)) (Some s)

abbrev after_exponent : List ℕ → Option (List ℕ)
after_exponent s = let t = drop 1 s in cond ((get_or s 0 32 == 101) || (get_or s 0 32 == 69)) (after_digits (cond ((get_or t 0 32 == 45) || (get_or t 0 32 == 43)) (drop 1 t) t)) (Some s)

digits_kept : (s : List ℕ) → Keeps (after_digits s) s
digits_kept s rest e word = grind (arith, e, word, digits_before)

whole_kept : (s : List ℕ) → Keeps (after_whole s) s
whole_kept s = either_kept _ (Some (drop 1 s)) (after_digits s) s (λ yes. first_kept _ s (grind (arith, yes, nat_tests)) (all_kept (drop 1 s))) (digits_kept s)

fraction_kept : (s : List ℕ) → Keeps (after_fraction s) s
fraction_kept s = either_kept _ (after_digits (drop 1 s)) (Some s) s (λ yes. first_kept _ s (grind (arith, yes, nat_tests)) (digits_kept (drop 1 s))) (all_kept s)

exponent_kept : (s : List ℕ) → Keeps (after_exponent s) s
exponent_kept s =
    let t = drop 1 s in
    let sign = (get_or t 0 32 == 45) || (get_or t 0 32 == 43) in
    let signed = sign_kept after_digits sign t digits_kept (λ yes. grind (arith, yes, nat_tests)) in
    either_kept ((get_or s 0 32 == 101) || (get_or s 0 32 == 69)) (after_digits (cond sign (drop 1 t) t)) (Some s) s (λ yes. first_kept _ s (grind (arith, yes, nat_tests)) signed) (all_kept s)

number_blankless : (s : List ℕ) → option_and_then after_exponent (option_and_then after_fraction (after_whole (cond (get_or s 0 32 == 45) (drop 1 s) s))) ≡ Some [] → HasNoBlank s
number_blankless s e =
    let whole = after_whole (cond (get_or s 0 32 == 45) (drop 1 s) s) in
    let front = sign_kept after_whole (get_or s 0 32 == 45) s whole_kept (λ yes. grind (arith, yes, nat_tests)) in
    next_kept after_exponent (option_and_then after_fraction whole) s (next_kept after_fraction whole s front fraction_kept) exponent_kept [] e refl

-- the float that was read
abbrev float_in : Option Data → Option Float
float_in (Some (number (float x))) = Some x
float_in _ = None

from_float_in : (o : Option Data) (x : Float) → float_in o ≡ Some x → o ≡ Some (number (float x))
from_float_in (Some (number (float y))) x e = cc
from_float_in _ x e = absurd cc

-- the token of a finite float
float_token : (x : Float) (mid : State) → float_is_finite x ≡ true → TakesFloat ReadsAsDouble (start false) x mid
    → (s : List ℕ) × HasNoBlank s × (number_of s ≡ Some (float x)) × (mid.tokens ≡ number_token false s ∷ [])
unfolding serde_json_on_literals
float_token x mid finite (inl w) = (w.1, number_blankless w.1 w.2, w.3, ap (λ (s : State). s.tokens) w.4.1)
float_token x mid finite (inr w) = absurd cc

printed : (log : _) (text s : List ℕ) (is : IsTextOf log text) → is.0.0.tokens ≡ number_token false s ∷ [] → text ≡ s
unfolding serde_json_on_literals
printed log text s is e =
    let toks = sym is.0.2 ∙ e in
    let own : text ≡ s ++ [] = rw toks at is.1 in
    own ∙ append-nil s

reading : (log : _) (text s : List ℕ) (d : Num) (is : IsTextOf log text) → is.0.0.tokens ≡ number_token false s ∷ [] → number_of s ≡ Some d → read text ≡ Some (number d)
unfolding serde_json_on_literals
reading log text s d is e has = let toks = sym is.0.2 ∙ e in cc

from_run : (x : Float) (log : _) (text : List ℕ) (is : IsTextOf log text) (mid : State) → float_is_finite x ≡ true → is.0.0 ≡ mid → TakesFloat ReadsAsDouble (start false) x mid → (float_in (read text) ≡ Some x) × HasNoBlank text
from_run x log text is mid finite same takes =
    let w = float_token x mid finite takes in
    let own = ap (λ (s : State). s.tokens) same ∙ w.3 in
    (ap float_in (reading log text w.0 (float x) is own w.2), subst HasNoBlank (sym (printed log text w.0 is own)) w.1)

-- the text of a float has none, and reads back as the float
json_float : (x : Float) (log : _) (text : List ℕ) → float_is_finite x ≡ true → SendsValue (number (float x)) (Some []) log → IsTextOf log text → IsJsonText (number (float x)) text
json_float x log text finite sent is =
    let ran = subst (λ l. Follows (start false) l is.0.0) sent is.0.1 in
    let both = ∥∥₁_elim ran (×_prop (Coded-set (coded_option coded_float) (float_in (read text)) (Some x)) (Coded-set coded_bool (list_all (nat_lt 32) text) true)) (λ run. from_run x log text is run.0 finite run.2 run.1) in
    (from_float_in (read text) x both.0, both.1)

-- the text that `serde_json::to_string` gives for a number
pub json_number : (m : N) (log : _) (text : List ℕ) → is_valid m ≡ true → SendsValue (number (num_of m)) (Some []) log → IsTextOf log text → IsJsonText (number (num_of m)) text
json_number (n.PosInt z) log text valid sent is = text_of_value (number (unsigned z)) log text sent is refl
json_number (n.NegInt z) log text valid sent is = text_of_value (number (negative z)) log text sent is refl
json_number (n.Float x) log text valid sent is = json_float x log text valid sent is
