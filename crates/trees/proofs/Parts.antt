-- Parts of documents: there is one at most where some steps lead.
use Rattle.trees.proofs.Common.{◌≡◌, ◌∙◌, ◌<◌, ◌+◌, ◌-◌, ◌==◌, inl, [], ◌∷◌, ℕ, List, Option, Some, None, false, Bor, length, subst, sym, ap, refl, length-drop, MatchOption, option_map, arith, position_or_len, before_first, after_first, FileNode, json, toml}
use Rattle.std.proofs.lemmas.List.Elements.{All-from_get_or}
use Rattle.std.proofs.lemmas.List.Splits.{slice_split_first, slice_split_none}
use Rattle.std.proofs.lemmas.List.Sums.{fails_before_first}
use Rattle.serde_json.specs.Data as j
use Rattle.toml.specs.Data as t
use Rattle.ptree.specs.declared.value.document.DocFormat.{DocFormat}
use Rattle.ptree.proofs.Styles.ColorNames.{option_map-option_map}
use Rattle.ptree_trees.specs.RefusedPath.{StepValue, at_key, at_position}
use Rattle.trees.specs.declared.command.Document.{Document}
use Rattle.trees.specs.declared.failure.Failure.{Failure}
use Rattle.trees.specs.declared.failure.Failure.TheVariants.{Input}
use Rattle.trees.specs.declared.source.Source.{Source}
use Rattle.trees.specs.Documents.{IsDocumentOf, node_at, IsNumber, IsStep, FindsPart, steps_in, LeadsBy, IsPartAsked, IsFirstMissing, SaysMissing, NamesMissing, NamesWrongIn}
use Rattle.trees.specs.Reading.{IsInput, FailsToMake}

-- nothing has both keys and positions
key_or_position : (node : FileNode) (key : List ℕ) (n : ℕ) (x y : FileNode) → node_at (at_key key) node ≡ Some x → node_at (at_position n) node ≡ Some y → ⊥
key_or_position (json (j.array ds)) key n x y at_x at_y = cc
key_or_position (toml (t.array ds)) key n x y at_x at_y = cc
key_or_position _ key n x y at_x at_y = cc

-- a text leads to one value at most
one_step : (whole : FileNode) (text : List ℕ) (s r : StepValue) (x y : FileNode) → IsStep text s → IsStep text r → node_at s whole ≡ Some x → node_at r whole ≡ Some y → x ≡ y
one_step whole text (at_key k) (at_key l) x y is_s is_r at_x at_y = cc
one_step whole text (at_key k) (at_position n) x y is_s is_r at_x at_y = absurd (key_or_position whole k n x y at_x at_y)
one_step whole text (at_position m) (at_key l) x y is_s is_r at_x at_y = absurd (key_or_position whole l m y x at_y at_x)
one_step whole text (at_position m) (at_position n) x y is_s is_r at_x at_y = cc (is_s.1, is_r.1)

-- steps lead to one part at most
one_part : (texts : List (List ℕ)) (whole a b : FileNode) → LeadsBy texts whole a → LeadsBy texts whole b → a ≡ b
one_part [] whole a b to_a to_b = to_a ∙ sym to_b
one_part (text ∷ texts) whole a b to_a to_b =
    let same : to_b.1 ≡ to_a.1 = one_step whole text to_b.0 to_a.0 to_b.1 to_a.1 to_b.2 to_a.2 to_b.3 to_a.3 in
    one_part texts to_a.1 a b to_a.4 (subst (λ (w : FileNode). LeadsBy texts w b) same to_b.4)

-- one part at most is asked for
pub one_asked : (at : Option (Bor (List ℕ))) (whole a b : FileNode) → IsPartAsked at whole a → IsPartAsked at whole b → a ≡ b
one_asked None whole a b is_a is_b = is_a ∙ sym is_b
one_asked (Some at) whole a b is_a is_b = one_part (steps_in at.now) whole a b is_a is_b

-- where nothing stands at the first step, that one is missing
pub missing_first : (keys text : List ℕ) (r : Option (Bor (List ℕ))) (whole : FileNode) → MatchOption r (steps_in keys ≡ text ∷ []) (λ rest. (steps_in keys ≡ text ∷ steps_in rest.now) × (length rest.now < length keys))
    → FindsPart whole text None → IsFirstMissing (steps_in keys) whole text
missing_first keys text None whole is none = ([], [], whole, is, refl, none)
missing_first keys text (Some rest) whole is none = ([], steps_in rest.now, whole, is.0, refl, none)

-- what is missing behind the first step is missing in all
missing_below : (keys text key : List ℕ) (texts : List (List ℕ)) (whole next : FileNode) → steps_in keys ≡ text ∷ texts → FindsPart whole text (Some next)
    → IsFirstMissing texts next key → IsFirstMissing (steps_in keys) whole key
missing_below keys text key texts whole next is found (front, behind, part, parts, leads, none) =
    (text ∷ front, behind, part, is ∙ ap (λ (ts : List (List ℕ)). text ∷ ts) parts, (found.0, next, found.1, found.2, leads), none)

-- and so it is said
pub says_below : (source : Source) (at keys text : List ℕ) (texts : List (List ℕ)) (whole next : FileNode) (e : Failure) → steps_in keys ≡ text ∷ texts → FindsPart whole text (Some next)
    → SaysMissing source at texts next e → SaysMissing source at (steps_in keys) whole e
says_below source at keys text texts whole next e is found (key, missing, says) = (key, missing_below keys text key texts whole next is found missing, says)

-- what names the first missing key of what is asked for names what is wrong
pub wrong_at : (format : DocFormat) (source : Source) (document : Document) (whole : FileNode) (e : Failure) → FailsToMake ⊥ (IsPartAsked document.at whole) e
    → (IsInput e → NamesMissing source document.at whole e) → NamesWrongIn format source document whole e
wrong_at format source document whole (Input wrong) none missing input = inl (none, missing input)
wrong_at format source document whole _ none missing input = absurd input

-- ## Steps

-- nothing stands at a text that is no key, and whose position has nothing
no_step : (whole : FileNode) (text : List ℕ) (n : ℕ) → IsStep text (at_position n) → node_at (at_key text) whole ≡ None → node_at (at_position n) whole ≡ None
    → (s : StepValue) → IsStep text s → node_at s whole ≡ None
no_step whole text n is no_key no_position (at_key key) is_s = ap (λ (k : List ℕ). node_at (at_key k) whole) is_s ∙ no_key
no_step whole text n is no_key no_position (at_position m) is_s = ap (λ (k : ℕ). node_at (at_position k) whole) (sym is_s.1 ∙ is.1) ∙ no_position

-- what stands at the position of a text that is no key
at_its_position : (whole : FileNode) (text : List ℕ) (n : ℕ) (part : Option FileNode) → IsStep text (at_position n) → node_at (at_key text) whole ≡ None
    → node_at (at_position n) whole ≡ part → FindsPart whole text part
at_its_position whole text n None is no_key at = no_step whole text n is no_key at
at_its_position whole text n (Some part) is no_key at = (at_position n, is, at)

-- what stands at the position that a text says
pub at_said : {V D : Type 0} (file : D → FileNode) (seen : V → D) (whole : FileNode) (text : List ℕ) (n : ℕ) (part : Option V) → IsNumber text n → node_at (at_key text) whole ≡ None
    → node_at (at_position n) whole ≡ option_map file (option_map seen part) → FindsPart whole text (option_map (λ v. file (seen v)) part)
at_said file seen whole text n part is no_key at = at_its_position whole text n (option_map (λ v. file (seen v)) part) is no_key (at ∙ option_map-option_map file seen part)

-- what stands at the key that a text is
pub at_its_key : {V D : Type 0} (file : D → FileNode) (seen : V → D) (whole : FileNode) (text : List ℕ) (part : Option V) (d : D) → node_at (at_key text) whole ≡ option_map file (option_map seen part)
    → option_map seen part ≡ Some d → FindsPart whole text (option_map (λ v. file (seen v)) part)
at_its_key file seen whole text None d at found = absurd (cc)
at_its_key file seen whole text (Some part) d at found = (at_key text, refl, at)

-- a text with a full stop is the step before it, and those after
pub first_step : (keys key rest : List ℕ) → key ≡ before_first (λ b. b == 46) keys → rest ≡ after_first (λ b. b == 46) keys → position_or_len (λ b. b == 46) keys < length keys
    → (steps_in keys ≡ key ∷ steps_in rest) × (length rest < length keys)
first_step keys key rest before after within =
    let cut : steps_in keys ≡ before_first (λ b. b == 46) keys ∷ steps_in (after_first (λ b. b == 46) keys) = slice_split_first (λ b. b == 46) keys 0 within in
    let parts : key ∷ steps_in rest ≡ before_first (λ b. b == 46) keys ∷ steps_in (after_first (λ b. b == 46) keys) =
    ap (λ (k : List ℕ). k ∷ steps_in rest) before ∙ ap (λ (r : List ℕ). before_first (λ b. b == 46) keys ∷ steps_in r) after in
    let long : length rest ≡ length keys - (position_or_len (λ b. b == 46) keys + 1) = ap length after ∙ length-drop (position_or_len (λ b. b == 46) keys + 1) keys in
    (cut ∙ sym parts, omega (arith, long, within))

-- a text without one is one step
pub one_key : (keys : List ℕ) → position_or_len (λ b. b == 46) keys ≡ length keys → steps_in keys ≡ keys ∷ []
one_key keys none =
    slice_split_none (λ b. b == 46) keys
    (All-from_get_or (λ (b : ℕ). (b == 46) ≡ false) keys 0 (λ i l. fails_before_first (λ b. b == 46) keys i 0 (omega (arith, none, l))))

-- a source is one document at most
pub one_document : (format : DocFormat) (source : Source) (a b : FileNode) → IsDocumentOf format source a → IsDocumentOf format source b → a ≡ b
one_document format source a b is_a is_b = cc
