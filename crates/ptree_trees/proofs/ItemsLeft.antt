-- The lines that readers of drawings have left.
use Rattle.std.specs.Prelude.{◌≢◌, ◌↔◌, IfErr, IsTrue, MatchResult, Result, not, nat_lt, option_map, if◌then◌else◌}
use Rattle.std.proofs.Common.{◌≡◌, ◌∙◌, ◌+◌, ℕ, suc, Bool, true, false, ◌⊎◌, inl, inr, List, [], ◌∷◌, ◌++◌, append_assoc, append-nil, Option, Some, None, Ok, Err, sym, ap, refl, subst}
use Rattle.std.proofs.lemmas.Bool.{false≢true}
use Rattle.std.proofs.lemmas.List.{append_cancel_left}
use Rattle.std.proofs.lemmas.Slice.Eq.{bytes_eq-Decides}
use Rattle.std.specs.Str.{bytes_eq}
use Rattle.ptree.specs.declared.read.items.ItemReader.{ItemReader}
use Rattle.ptree.specs.declared.read.items.ReadItem.{ReadItem}
use Rattle.ptree.specs.declared.read.lines.ReadText.{ReadText}
use Rattle.ptree.specs.Drawing.{Look}
use Rattle.ptree.specs.DrawnForm.{IsDrawnForm}
use Rattle.ptree.specs.ItemReader.{HasRead, IsNextItem, IsNextLevel}
use Rattle.ptree.specs.Outline.{Line, line, outline, outline_at}
use Rattle.ptree.specs.ReadItems.{item_line, read_text_of}
use Rattle.ptree.specs.Tree.{Tree}
use Rattle.ptree.proofs.Reading.SpelledForms.{same_drawn_form}
use Rattle.ptree_trees.specs.declared.difference.Found.{Found}
use Rattle.ptree_trees.specs.declared.difference.Found.TheVariants.{Nothing}
use Rattle.ptree_trees.specs.Found.{AreTreeAt, FindsFrom, FindsIn, HasLeft, first_below}
use Rattle.ptree_trees.proofs.ItemDifferences.{AreNext, AreSoFar, so_far_start, so_far_next, whole_tree}

-- what a call for the next item says of the lines that were left
abbrev pub IsNextLeft : Look → ℕ → List ℕ → ItemReader → List Line → Option ReadItem → Type 0
IsNextLeft look depth x new lines None = lines ≡ []
IsNextLeft look depth x new lines (Some item) = (rest : List Line) × (lines ≡ item_line item ∷ rest) × HasLeft look depth x new rest

-- the next item has the first line
pub next_left : (look : Look) (depth : ℕ) (x : List ℕ) (old new : ItemReader) (lines : List Line) (o : Option ReadItem) → HasLeft look depth x old lines
    → ((done : List Line) → HasRead look depth x old done → IsNextItem look depth x done new (Ok o)) → IsNextLeft look depth x new lines o
next_left look depth x old new lines None h next =
    let (u, is, form) = next h.done h.read in
    let same = same_drawn_form look depth h.read.readable x h.whole u h.form form in
    append_cancel_left h.done lines [] (sym h.all ∙ ap outline same ∙ is ∙ sym (append-nil h.done))
next_left look depth x old new lines (Some item) h next =
    let read = next h.done h.read in
    let (rest, all) = read.first h.whole h.form in
    (rest, append_cancel_left h.done lines (item_line item ∷ rest) (sym h.all ∙ all ∙ append_assoc h.done (item_line item ∷ []) rest), record { whole = h.whole; form = h.form; done = h.done ++ item_line item ∷ []; read = read; all = all })

-- what the level of the next item says of the lines that are left
abbrev pub IsFirstLevel : List Line → Option ℕ → Type 0
IsFirstLevel lines None = lines ≡ []
IsFirstLevel lines (Some n) = (text : List ℕ) × (rest : List Line) × (lines ≡ line n text ∷ rest)

-- it is the level of the first line
pub level_left : (look : Look) (depth : ℕ) (x : List ℕ) (reader : ItemReader) (lines : List Line) (o : Option ℕ) → HasLeft look depth x reader lines
    → ((done : List Line) → HasRead look depth x reader done → (t : Tree) → IsDrawnForm look depth x t → IsNextLevel t done o) → IsFirstLevel lines o
level_left look depth x reader lines None h next = append_cancel_left h.done lines [] (sym h.all ∙ next h.done h.read h.whole h.form ∙ sym (append-nil h.done))
level_left look depth x reader lines (Some n) h next =
    let (text, rest, is) = next h.done h.read h.whole h.form in
    (text, rest, append_cancel_left h.done lines (line n text ∷ rest) (sym h.all ∙ is))

-- ## Texts below a level

-- a choice is something exactly where the test is true
some_if : (b : Bool) (text : List ℕ) → IsTrue b ↔ ((if b then Some text else None) ≢ None)
some_if true text = (λ _ e. absurd (cc), λ _. refl)
some_if false text = (λ e. absurd (false≢true e), λ other. absurd (other refl))

-- and then it is the text
text_if : (b : Bool) (text : List ℕ) → (if b then Some text else None) ≢ None → Some text ≡ (if b then Some text else None)
text_if true text other = refl
text_if false text other = absurd (other refl)

-- what a test finds not to be something is nothing
pub not_below : (o : Option (List ℕ)) (test : Bool) → IsTrue test ↔ (o ≢ None) → test ≡ false → None ≡ o
not_below None test h e = refl
not_below (Some text) test h e = absurd (false≢true (sym e ∙ h.1 (λ is. absurd (cc))))

-- a first line is below a level exactly if its level is
pub is_below_if : (lines : List Line) (level n : ℕ) → IsFirstLevel lines (Some n) → IsTrue (nat_lt level n) ↔ (first_below level lines ≢ None)
is_below_if lines level n (text, rest, is) = subst (λ z. IsTrue (nat_lt level n) ↔ (first_below level z ≢ None)) (sym is) (some_if (nat_lt level n) text)

-- none is below a level if there is none
pub none_below : (lines : List Line) (level : ℕ) → lines ≡ [] → None ≡ first_below level lines
none_below lines level is = sym (ap (first_below level) is)

-- the text of a first line that is below a level
pub text_is_below : (lines rest : List Line) (level : ℕ) (l : Line) → lines ≡ l ∷ rest → first_below level lines ≢ None → Some l.text ≡ first_below level lines
text_is_below lines rest level l is other = subst (λ z. first_below level z ≢ None → Some l.text ≡ first_below level z) (sym is) (text_if (nat_lt level l.level) l.text) other

-- ## Two readers

-- the next lines of both readers are those of two trees' children from one on, and the children before it are the same
pub record IsSame (look : Look) (depth : ℕ) (x y : List ℕ) (n : ℕ) (t u : Tree) (i : ℕ) (rest more : List Line) (level : ℕ) (text : List ℕ) (left right : ItemReader) : Type 0 where
  pub level_is : level ≡ n
  pub text_is : text ≡ t.text
  pub lines : List Line
  pub others : List Line
  pub lines_left : HasLeft look depth x left lines
  pub others_left : HasLeft look depth y right others
  pub so_far : AreSoFar n t u i rest more lines others

-- the first line of a tree's lines is its root's, and those of its children follow
pub root_line : (n : ℕ) (t : Tree) (rest lines l : List Line) (own : ReadItem) → AreTreeAt n t rest lines → lines ≡ item_line own ∷ l → (own.level ≡ n) × (read_text_of own.text ≡ t.text) × (l ≡ outline_at (suc n) t.children ++ rest)
root_line n t rest lines l own h is =
    let both : item_line own ∷ l ≡ line n t.text ∷ (outline_at (suc n) t.children ++ rest) = sym is ∙ h.lines_are in
    let first : item_line own ≡ line n t.text = cc in
    (ap (λ (z : Line). z.level) first, ap (λ (z : Line). z.text) first, let others : l ≡ outline_at (suc n) t.children ++ rest = cc in others)

-- behind roots with the same text no child is passed
pub same_start : (look : Look) (depth : ℕ) (x y : List ℕ) (left right : ItemReader) (n : ℕ) (t u : Tree) (rest more lines others : List Line) (own other : ReadItem) → IsNextLeft look depth x left lines (Some own) → IsNextLeft look depth y right others (Some other)
    → AreTreeAt n t rest lines → AreTreeAt n u more others → read_text_of own.text ≡ read_text_of other.text → IsSame look depth x y n t u 0 rest more own.level (read_text_of own.text) left right
same_start look depth x y left right n t u rest more lines others own other (l, l_is, l_left) (r, r_is, r_left) a b same =
    let p = root_line n t rest lines l own a l_is in
    let q = root_line n u more others r other b r_is in
    record {
      level_is = p.0;
      text_is = p.1;
      lines = l;
      others = r;
      lines_left = l_left;
      others_left = r_left;
      so_far = rw (p.2, q.2) (so_far_start n t u rest more a.behind b.behind (sym p.1 ∙ same ∙ q.1));
    }

-- the next children of two trees are there if both have a text
pub same_next : (look : Look) (depth : ℕ) (x y : List ℕ) (n : ℕ) (t u : Tree) (i : ℕ) (rest more : List Line) (level : ℕ) (text : List ℕ) (left right : ItemReader) → (h : IsSame look depth x y n t u i rest more level text left right)
    → first_below level h.lines ≢ None → first_below level h.others ≢ None → AreNext n t u i rest more h.lines h.others
same_next look depth x y n t u i rest more level text left right h l r =
    so_far_next n t u i rest more h.lines h.others h.so_far (λ e. l (ap (λ m. first_below m h.lines) h.level_is ∙ e)) (λ e. r (ap (λ m. first_below m h.others) h.level_is ∙ e))

-- behind equal children the same is so of the next ones
pub same_more : (look : Look) (depth : ℕ) (x y : List ℕ) (n : ℕ) (t u : Tree) (i : ℕ) (rest more : List Line) (level : ℕ) (text : List ℕ) (left right new_left new_right : ItemReader) → (h : IsSame look depth x y n t u i rest more level text left right) → (a : AreNext n t u i rest more h.lines h.others)
    → FindsIn look depth x y new_left new_right a.behind_child a.behind_other a.child a.other Nothing → IsSame look depth x y n t u (i + 1) rest more level text new_left new_right
same_more look depth x y n t u i rest more level text left right new_left new_right h a (same, l, r) = record {
  level_is = h.level_is;
  text_is = h.text_is;
  lines = a.behind_child;
  others = a.behind_other;
  lines_left = l;
  others_left = r;
  so_far = a.equal same;
}

-- ## Both texts

-- what has no text is nothing
mapped_none : (o : Option ReadText) → option_map read_text_of o ≡ None → o ≡ None
mapped_none None e = refl
mapped_none (Some text) e = absurd (cc)

-- the next texts are not the same if one is not there, and the other is
pub one_below : (level : ℕ) (lines others : List Line) (a b : Option ReadText) → option_map read_text_of a ≡ first_below level lines → option_map read_text_of b ≡ first_below level others
    → (a ≡ None → b ≡ None → ⊥) → (None ≡ first_below level lines) ⊎ (None ≡ first_below level others) → first_below level lines ≢ first_below level others
one_below level lines others a b l r some (inl none) e = some (mapped_none a (l ∙ sym none)) (mapped_none b (r ∙ sym e ∙ sym none))
one_below level lines others a b l r some (inr none) e = some (mapped_none a (l ∙ e ∙ sym none)) (mapped_none b (r ∙ sym none))

-- texts that a test finds to be not the same differ
pub differ_by_test : (a b : List ℕ) (test : Bool) → test ≡ not (bytes_eq a b) → test ≡ true → a ≢ b
differ_by_test a b test is found e = false≢true (sym (is ∙ ap not ((bytes_eq-Decides a b).1 e)) ∙ found)

-- ## Whole drawings

-- of a drawing none of whose items was read all lines are left
all_left : (look : Look) (depth : ℕ) (x : List ℕ) (reader : ItemReader) (t : Tree) → HasRead look depth x reader [] → IsDrawnForm look depth x t → HasLeft look depth x reader (outline t)
all_left look depth x reader t read form = record { whole = t; form = form; done = []; read = read; all = refl }

-- what is found in both is of the two trees
pub found_whole : (look : Look) (depth : ℕ) (x y : List ℕ) (left right new_left new_right : ItemReader) (found : Found) (t u : Tree) → FindsFrom look depth x y left right new_left new_right found → HasRead look depth x left [] → HasRead look depth y right [] → IsDrawnForm look depth x t → IsDrawnForm look depth y u
    → FindsIn look depth x y new_left new_right [] [] t u found
found_whole look depth x y left right new_left new_right found t u finds l r f g =
    finds 0 t u [] [] (outline t) (outline u) (all_left look depth x left t l f) (all_left look depth y right u r g) (whole_tree t) (whole_tree u)

-- what holds of a result holds of its error
pub error_part : {T E : Type 0} (r : Result T E) (P : T → Type 0) (Q : E → Type 0) → MatchResult r P Q → IfErr r Q
error_part (Ok x) P Q h = tt
error_part (Err e) P Q h = h
