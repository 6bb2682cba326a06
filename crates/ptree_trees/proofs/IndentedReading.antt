-- How far the lines of an indented form have been read.
use Rattle.std.proofs.Common.{◌≡◌, ◌≢◌, ℕ, suc, ◌+◌, ◌-◌, ◌<◌, ◌≤◌, true, false, List, [], ◌∷◌, ◌++◌}
use Rattle.std.proofs.Common.{length, length-append, refl, sym, ap, ◌∙◌, subst, append_assoc, add-one, arith}
use Rattle.std.proofs.lemmas.Bool.{false≢true}
use Rattle.std.proofs.lemmas.List.{append-nil}
use Rattle.ptree.specs.Continuation.{first_lines, line_count}
use Rattle.ptree.specs.Outline.{Line, line, outline, outline_at, IsOutline, Steps, last_level}
use Rattle.ptree.specs.Texts.{HasNoLineFeed}
use Rattle.ptree.specs.Tree.{Tree, tree, none}
use Rattle.ptree.specs.TreeBuilder.{Building}
use Rattle.ptree.proofs.Reading.FirstLines.{count_none, count_line, first_next}
use Rattle.ptree.proofs.Drawing.Inserted.{feed_not_empty}
use Rattle.ptree.proofs.Trees.LineTrees.{tree_of_lines}
use Rattle.ptree.proofs.Trees.OutlineAddresses.{outline_of_tree}
use Rattle.ptree.proofs.Reading.SpelledForms.{tree_steps}
use Rattle.ptree.proofs.Trees.Steps.{Steps-push, last_level-push}
use Rattle.ptree_trees.specs.Indented.{begins_blank, IsUnit, IsLineText, indent, indented_line, indented_lines, AreLineTexts}
use Rattle.ptree_trees.specs.Indented.{IsIndentedForm, HasContinuation, IsFirstWrongLine, EndsWrong}
use Rattle.ptree_trees.specs.IndentedReading.{IsNext, IsAdded}
use Rattle.ptree_trees.specs.declared.indented.Form.{Form}
use Rattle.ptree_trees.proofs.IndentedTexts.{line_once, no_line, no_feed_end, SameIndent, indent_once}
use Rattle.ptree_trees.proofs.IndentedLines.{line_parts, lines_front, lines_push, no_feed_join, own, texts_push, whole}

-- ## Stages

-- so many lines have been read, and they have these items
pub record IsStage (form : Form) (text : List ℕ) (b : Building) (rest : List ℕ) (n : ℕ) : Type 0 where
  pub root : List ℕ
  pub below : List Line
  pub outline : b.outline ≡ line 0 root ∷ below
  pub texts : AreLineTexts form (line 0 root ∷ below)
  pub steps : Steps 0 below
  pub level : b.level ≡ last_level 0 below
  pub text_is : text ≡ indented_lines form (line 0 root ∷ below) ++ rest
  pub firsts : first_lines n text ≡ indented_lines form (line 0 root ∷ below)
  pub count : line_count text ≡ n + line_count rest
  pub room : n + length rest ≤ length text

-- the root's line has been read
pub stage_root : (form : Form) (text root rest : List ℕ) (b : Building) → HasNoLineFeed (own form root) → begins_blank (own form root) ≡ false
    → text ≡ own form root ++ 10 ∷ rest → b.outline ≡ line 0 root ∷ [] → b.level ≡ 0 → IsStage form text b rest 1
stage_root form text root rest b h k e is level =
    let first : List ℕ = own form root in
    record {
      root = root;
      below = [];
      outline = is;
      texts = ((h, k), tt);
      steps = tt;
      level = level;
      text_is = e ∙ (sym (append_assoc first (10 ∷ []) rest) ∙ ap (λ z. z ++ rest) (sym (append-nil (first ++ 10 ∷ []))));
      firsts = first_next 0 text text first rest refl e h ∙ sym (append-nil (first ++ 10 ∷ []));
      count = ap line_count e ∙ count_line first rest h;
      room = let long = ap length e in omega (arith, simp length-append at long);
    }

-- so the text is its first lines and the rest
cut : (form : Form) (text : List ℕ) (b : Building) (rest : List ℕ) (n : ℕ) → IsStage form text b rest n → text ≡ first_lines n text ++ rest
cut form text b rest n s = s.text_is ∙ ap (λ z. z ++ rest) (sym s.firsts)

-- the first lines with the next one
next_lines : (form : Form) (text : List ℕ) (b : Building) (rest x more : List ℕ) (n : ℕ) → IsStage form text b rest n → HasNoLineFeed x → rest ≡ x ++ 10 ∷ more
    → first_lines (suc n) text ≡ first_lines n text ++ (x ++ 10 ∷ [])
next_lines form text b rest x more n s h e = first_next n text rest x more (cut form text b rest n s) e h ∙ append_assoc (first_lines n text) x (10 ∷ [])

-- a further line has been read
pub stage_more : (form : Form) → IsUnit form.unit.now → (text : List ℕ) (b c : Building) (rest x more : List ℕ) (n : ℕ) → IsStage form text b rest n
    → HasNoLineFeed x → rest ≡ x ++ 10 ∷ more → IsAdded form b c x → IsStage form text c more (n + 1)
stage_more form u text b c rest x more n s h e a =
    let l : Line = line a.level a.text in
    let all : List Line = line 0 s.root ∷ s.below in
    let one : indented_line form l ≡ x ++ 10 ∷ [] = sym (append-nil (indented_line form l)) ∙ (line_parts form l [] ∙ ap (λ z. z ++ 10 ∷ []) (sym a.next.line_is)) in
    let pushed : indented_lines form (all ++ l ∷ []) ≡ indented_lines form all ++ (x ++ 10 ∷ []) = lines_push form all l ∙ ap (λ z. indented_lines form all ++ z) one in
    record {
      root = s.root;
      below = s.below ++ l ∷ [];
      outline = a.outline ∙ ap (λ z. z ++ l ∷ []) s.outline;
      texts = texts_push form all l s.texts (no_feed_end (indent form.unit.now a.level) (own form a.text) (subst HasNoLineFeed a.next.line_is h)) a.next.text_is;
      steps = Steps-push 0 s.below l s.steps a.next.low (omega (arith, a.next.high, s.level));
      level = a.level_is ∙ sym (last_level-push 0 s.below l);
      text_is = s.text_is ∙ (ap (λ z. indented_lines form all ++ z) (e ∙ sym (append_assoc x (10 ∷ []) more))
          ∙ (sym (append_assoc (indented_lines form all) (x ++ 10 ∷ []) more) ∙ ap (λ z. z ++ more) (sym pushed)));
      firsts = ap (λ m. first_lines m text) (add-one n) ∙ (next_lines form text b rest x more n s h e ∙ (ap (λ z. z ++ (x ++ 10 ∷ [])) s.firsts ∙ sym pushed));
      count = let counted = ap line_count e ∙ count_line x more h in omega (arith, s.count, counted);
      room = let long = ap length e in omega (arith, s.room, simp length-append at long);
    }

-- ## Ends

-- a line that can follow has the level and the text that were read
next_parts : (form : Form) → IsUnit form.unit.now → (n : ℕ) (x : List ℕ) (found : ℕ) (behind : List ℕ) → begins_blank behind ≡ false
    → x ≡ indent form.unit.now found ++ behind → (level : ℕ) (text : List ℕ) → IsNext form n x level text → SameIndent found level behind (own form text)
next_parts form u n x found behind h e level text next =
    indent_once form.unit.now u found level behind (own form text) h next.text_is (sym e ∙ next.line_is)

-- if a line can follow, its level is the one that was read
pub next_level : (form : Form) → IsUnit form.unit.now → (n : ℕ) (x : List ℕ) (found : ℕ) (behind : List ℕ) → begins_blank behind ≡ false
    → x ≡ indent form.unit.now found ++ behind → (level : ℕ) (text : List ℕ) → IsNext form n x level text → (0 < found) × (found ≤ n + 1)
next_level form u n x found behind h e level text next =
    let same = next_parts form u n x found behind h e level text next in
    (omega (arith, same.level, next.low), omega (arith, same.level, next.high))

-- a line cannot follow if no bullet stands after its indent
pub no_bullet : (form : Form) → IsUnit form.unit.now → (n : ℕ) (x : List ℕ) (found : ℕ) (behind : List ℕ) → begins_blank behind ≡ false
    → x ≡ indent form.unit.now found ++ behind → ((rest : List ℕ) → behind ≢ form.bullet.now ++ rest) → (level : ℕ) (text : List ℕ) → IsNext form n x level text → ⊥
no_bullet form u n x found behind h e never level text next = never text (next_parts form u n x found behind h e level text next).text

-- the lines of a text with a root and items below it are those of some tree
line_tree : (root : List ℕ) (below : List Line) → Steps 0 below → (t : Tree) × (outline t ≡ line 0 root ∷ below)
line_tree root below steps = let f = tree_of_lines below steps in (tree root f.0, ap (λ z. line 0 root ∷ z) f.1)

-- an indented form continues the lines that have been read
stage_goes_on : (form : Form) (text : List ℕ) (b : Building) (rest : List ℕ) (n : ℕ) → IsStage form text b rest n → HasContinuation form (first_lines n text)
stage_goes_on form text b rest n s =
    let t = line_tree s.root s.below s.steps in
    (t.0, [], (subst (AreLineTexts form) (sym t.1) s.texts, append-nil (first_lines n text) ∙ (s.firsts ∙ ap (λ z. indented_lines form z) (sym t.1))))

-- an indented form continues the empty text
goes_on_nothing : (form : Form) → IsLineText form.bullet.now → HasContinuation form []
goes_on_nothing form b =
    (tree [] none, indented_lines form (line 0 [] ∷ []), ((subst IsLineText (sym (append-nil form.bullet.now)) b, tt), refl))

-- the level of a line among those below a root
steps_at : (n : ℕ) (o : List Line) (l : Line) (q : List Line) → Steps n (o ++ l ∷ q) → (0 < l.level) × (l.level ≤ suc (last_level n o))
steps_at n [] l q s = (s.0, s.1)
steps_at n (k ∷ o) l q s = steps_at k.level o l q s.2

-- a line is the first of these lines
pub record IsFirstOf (form : Form) (x : List ℕ) (l : Line) (later q : List Line) : Type 0 where
  pub lines : q ≡ l ∷ later
  pub text_is : begins_blank (own form l.text) ≡ false
  pub line_is : x ≡ whole form l

-- what other lines begin with a line, the first of them is that line
first_other : (form : Form) → IsUnit form.unit.now → (q : List Line) (x more : List ℕ) → HasNoLineFeed x → AreLineTexts form q → x ++ 10 ∷ more ≡ indented_lines form q
    → (l : Line) × (later : List Line) × IsFirstOf form x l later q
first_other form u [] x more h k e = absurd (feed_not_empty x more (sym e))
first_other form u (l ∷ q) x more h k e =
    let same = line_once x (whole form l) more (indented_lines form q) h (no_feed_join form u l k.0.0) (e ∙ line_parts form l (indented_lines form q)) in
    (l, q, record { lines = refl; text_is = k.0.1; line_is = same.0 })

-- if a line cannot follow, no indented form begins with it
stage_refuses : (form : Form) → IsUnit form.unit.now → (text : List ℕ) (b : Building) (rest x more : List ℕ) (n : ℕ) → IsStage form text b rest n → HasNoLineFeed x
    → rest ≡ x ++ 10 ∷ more → ((level : ℕ) (t : List ℕ) → IsNext form b.level x level t → ⊥) → HasContinuation form (first_lines (suc n) text) → ⊥
stage_refuses form u text b rest x more n s h e never (t, y, (texts, is)) =
    let all : List Line = line 0 s.root ∷ s.below in
    let lines : indented_lines form all ++ (x ++ 10 ∷ y) ≡ indented_lines form (outline t) =
    ap (λ z. indented_lines form all ++ z) (sym (append_assoc x (10 ∷ []) y))
    ∙ (sym (append_assoc (indented_lines form all) (x ++ 10 ∷ []) y) ∙ (ap (λ z. (z ++ (x ++ 10 ∷ [])) ++ y) (sym s.firsts)
    ∙ (ap (λ z. z ++ y) (sym (next_lines form text b rest x more n s h e)) ∙ is))) in
    let front = lines_front form u all (outline t) (x ++ 10 ∷ y) s.texts texts lines in
    let (l, later, first) = first_other form u front.others x y h front.texts front.text in
    let others : outline t ≡ line 0 s.root ∷ (s.below ++ l ∷ later) = front.lines ∙ ap (λ z. line 0 s.root ∷ (s.below ++ z)) first.lines in
    let below : outline_at 1 t.children ≡ s.below ++ l ∷ later = cc in
    let at = steps_at 0 s.below l later (subst (λ z. Steps 0 z) below (tree_steps t.children)) in
    never l.level l.text (record { text_is = first.text_is; line_is = first.line_is; low = at.0; high = omega (arith, at.1, s.level) })

-- such a line is the first wrong one
pub stage_wrong : (form : Form) → IsUnit form.unit.now → (text : List ℕ) (b : Building) (rest x more : List ℕ) (n : ℕ) → IsStage form text b rest n → HasNoLineFeed x
    → rest ≡ x ++ 10 ∷ more → ((level : ℕ) (t : List ℕ) → IsNext form b.level x level t → ⊥) → IsFirstWrongLine form text (n + 1)
stage_wrong form u text b rest x more n s h e never = record {
  low = omega arith;
  high = let counted = ap line_count e ∙ count_line x more h in omega (arith, s.count, counted);
  before = subst (λ m. HasContinuation form (first_lines m text)) (let same : n ≡ n + 1 - 1 = omega arith in same) (stage_goes_on form text b rest n s);
  wrong = λ k. stage_refuses form u text b rest x more n s h e never (subst (λ m. HasContinuation form (first_lines m text)) (add-one n) k);
}

-- a first line that is no root's is the first wrong line
pub root_wrong : (form : Form) → IsLineText form.bullet.now → (text first rest : List ℕ) → HasNoLineFeed first
    → ((t : List ℕ) → begins_blank (form.bullet.now ++ t) ≡ false → first ≢ form.bullet.now ++ t) → text ≡ first ++ 10 ∷ rest → IsFirstWrongLine form text 1
root_wrong form b text first rest h never e = record {
  low = omega arith;
  high = let counted = ap line_count e ∙ count_line first rest h in omega (arith, counted);
  before = goes_on_nothing form b;
  wrong = λ k.
      let (t, y, (texts, is)) = k in
      let below : List ℕ = indented_lines form (outline_at 1 t.children) in
      let next : first_lines 1 text ≡ first ++ 10 ∷ [] = first_next 0 text text first rest refl e h in
      let same = line_once first (own form t.text) y below h texts.0.0
      (sym (append_assoc first (10 ∷ []) y) ∙ (ap (λ z. z ++ y) (sym next) ∙ (is ∙ line_parts form (line 0 t.text) below))) in
      never t.text texts.0.1 same.0;
}

-- a text that begins with a blank or a tab is no root's line
pub no_root : (form : Form) (first : List ℕ) → begins_blank first ≡ true → (t : List ℕ) → begins_blank (form.bullet.now ++ t) ≡ false → first ≢ form.bullet.now ++ t
no_root form first blank t h e = false≢true (sym h ∙ (ap begins_blank (sym e) ∙ blank))

-- a text without a whole line is incomplete
pub root_missing : (form : Form) → IsLineText form.bullet.now → (text : List ℕ) → HasNoLineFeed text → EndsWrong form text
root_missing form b text h = record {
  lines = subst (λ m. HasContinuation form (first_lines m text)) (sym (count_none text h)) (goes_on_nothing form b);
  wrong = λ t k.
      let below : List ℕ = indented_lines form (outline_at 1 t.children) in
      no_line text (own form t.text) below h (k.1 ∙ line_parts form (line 0 t.text) below);
}

-- lines of which there are none, and others, hold a line feed
no_others : (form : Form) (q : List Line) (rest : List ℕ) → HasNoLineFeed rest → rest ≢ [] → rest ≡ indented_lines form q → ⊥
no_others form [] rest h some e = some e
no_others form (l ∷ q) rest h some e = no_line rest (whole form l) (indented_lines form q) h (e ∙ line_parts form l (indented_lines form q))

-- a text with more after its last line feed is incomplete
pub stage_ends : (form : Form) → IsUnit form.unit.now → (text : List ℕ) (b : Building) (rest : List ℕ) (n : ℕ) → IsStage form text b rest n → HasNoLineFeed rest → rest ≢ []
    → EndsWrong form text
stage_ends form u text b rest n s h some = record {
  lines =
      let zero_more = count_none rest h in
      let same : n ≡ line_count text = omega (arith, s.count, zero_more) in
      subst (λ m. HasContinuation form (first_lines m text)) same (stage_goes_on form text b rest n s);
  wrong = λ t k.
      let front = lines_front form u (line 0 s.root ∷ s.below) (outline t) rest s.texts k.0 (sym s.text_is ∙ k.1) in
      no_others form front.others rest h some front.text;
}

-- if nothing is left, the text is the indented form of the tree that was built
pub stage_form : (form : Form) (text : List ℕ) (b : Building) (rest : List ℕ) (n : ℕ) → IsStage form text b rest n → rest ≡ [] → (t : Tree) → IsOutline t b.outline
    → IsIndentedForm form text t
stage_form form text b rest n s left t o =
    let all : List Line = line 0 s.root ∷ s.below in
    let same : all ≡ outline t = sym s.outline ∙ (outline_of_tree t b.outline).0 o in (
      subst (AreLineTexts form) same s.texts,
      s.text_is ∙ (ap (λ z. indented_lines form all ++ z) left ∙ (append-nil (indented_lines form all) ∙ ap (λ z. indented_lines form z) same)),
    )
