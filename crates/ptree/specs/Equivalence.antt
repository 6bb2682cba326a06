-- The tests of `Equality` decide whether two values are equal, so they are equivalences. (Proofs,
-- since `impl`s cite them.)
use Rattle.std.proofs.Common.{◌≡◌, ◌↔◌, ◌∙◌, ◌&&◌, ◌==◌, ℕ, Bool, true, false, Option, Some, None, rules, ap, sym, refl, eq-eqb, eqb-true}
use Rattle.std.specs.Prelude.{IsTrue, List, option_map}
use Rattle.std.specs.Cmp.{IsEquivalence, both_ways}
use Rattle.std.specs.Ordering.{on}
use Rattle.std.specs.Str.{bytes_eq}
use Rattle.std.proofs.lemmas.Slice.Eq.{bytes_eq-Decides}
use Rattle.std.specs.Option.{option_eq}
use Rattle.std.proofs.lemmas.Bool.{and_parts, and_from, false≢true}
use Rattle.std.proofs.lemmas.Bool.Decides.{Decides-and}
use Rattle.std.specs.Bool.{Decides}
use mathlib.Core.Bool.{beq}
use denote.Enum.Bare.{sameb}
use Rattle.ptree.specs.declared.print_config.PrintConfig.{PrintConfig}
use Rattle.ptree.specs.declared.print_config.StyleWhen.{StyleWhen}
use Rattle.ptree.specs.declared.style.color.Color.{Color}
use Rattle.ptree.specs.declared.style.Style.{Style}
use Rattle.ptree.specs.contracts.print_config.StyleWhen.{the_type}
use Rattle.ptree.specs.Characters.{Characters, characters_of}
use Rattle.ptree.specs.Color.{color_of}
use Rattle.ptree.specs.Config.{config_of}
use Rattle.ptree.specs.Equality.{same_characters, same_color, same_style, same_config, same_forest, same_tree}
use Rattle.ptree.specs.Pieces.{marker_of}
use Rattle.ptree.specs.Style.{style_of}
use Rattle.ptree.specs.Tree.{Forest, none, item, Tree, tree, tree_of}

-- two tests decide two facts, so their conjunction decides both
both : {P Q : Type 0} {x y : Bool} → IsTrue x ↔ P → IsTrue y ↔ Q → IsTrue (x && y) ↔ (P × Q)
both {x = x} {y = y} p q = (λ h. (p.0 (and_parts x y h).0, q.0 (and_parts x y h).1), λ h. and_from x y (p.1 h.0) (q.1 h.1))

-- the test of booleans decides whether they are equal
bools : (a b : Bool) → IsTrue (beq a b) ↔ (a ≡ b)
bools true true = (λ _. refl, λ _. refl)
bools true false = (λ h. sym h, λ h. sym h)
bools false true = (λ h. h, λ h. h)
bools false false = (λ _. refl, λ _. refl)

-- the test of numbers decides whether they are equal
numbers : (a b : ℕ) → IsTrue (a == b) ↔ (a ≡ b)
numbers a b = (λ h. eqb-true a b h, λ h. eq-eqb a b h)

-- the test of texts decides whether they are equal
texts : (a b : List ℕ) → IsTrue (bytes_eq a b) ↔ (a ≡ b)
texts a b = let decides = bytes_eq-Decides a b in (λ h. decides.0 h, λ h. decides.1 h)

-- the test of `StyleWhen` decides whether two values are equal
whens : (a b : StyleWhen) → IsTrue (sameb the_type a b) ↔ (a ≡ b)
whens a b = search rules

-- the test of colours decides whether they hold the same
color_decided : (a b : Color) → IsTrue (same_color a b) ↔ (color_of a ≡ color_of b)
color_decided a b = search rules

-- the test of optional colours decides whether they hold the same
sides : (a b : Option Color) → IsTrue (option_eq same_color a b) ↔ (option_map color_of a ≡ option_map color_of b)
sides None None = (λ _. refl, λ _. refl)
sides None (Some b) = (λ h. cc, λ h. cc)
sides (Some a) None = (λ h. cc, λ h. cc)
sides (Some a) (Some b) = (λ h. ap Some ((color_decided a b).0 h), λ h. (color_decided a b).1 cc)

-- the test of characters decides whether they are equal
characters_decided : (a b : Characters) → IsTrue (same_characters a b) ↔ (a ≡ b)
characters_decided a b = search rules

-- the test of styles decides whether they hold the same
pub style_decided : (a b : Style) → IsTrue (same_style a b) ↔ (style_of a ≡ style_of b)
style_decided a b =
    let h = both (both (both (both (both (both (both (both (both (sides a.foreground b.foreground) (sides a.background b.background)) (bools a.bold b.bold)) (bools a.dimmed b.dimmed)) (bools a.italic b.italic)) (bools a.underline b.underline)) (bools a.blink b.blink)) (bools a.reverse b.reverse)) (bools a.hidden b.hidden)) (bools a.strikethrough b.strikethrough) in (
      λ e. let p = h.0 e in cc,
      λ e. h.1 (((((((((ap (λ v. v.foreground) e, ap (λ v. v.background) e), ap (λ v. v.bold) e), ap (λ v. v.dimmed) e), ap (λ v. v.italic) e), ap (λ v. v.underline) e), ap (λ v. v.blink) e), ap (λ v. v.reverse) e), ap (λ v. v.hidden) e), ap (λ v. v.strikethrough) e),
    )

-- the test of configurations decides whether they hold the same
pub config_decided : (a b : PrintConfig) → IsTrue (same_config a b) ↔ (config_of a ≡ config_of b)
config_decided a b =
    let h = both (both (both (both (both (both (both (numbers a.depth b.depth) (numbers a.indent b.indent)) (numbers a.padding b.padding)) (whens a.styled b.styled)) (characters_decided (characters_of a.characters) (characters_of b.characters))) (style_decided a.branch b.branch)) (style_decided a.leaf b.leaf)) (texts (marker_of a) (marker_of b)) in (
      λ e. let p = h.0 e in cc,
      λ e. h.1 (((((((ap (λ v. v.depth) e, ap (λ v. v.indent) e), ap (λ v. v.padding) e), ap (λ v. v.styled) e), ap (λ v. v.characters) e), ap (λ v. v.branch) e), ap (λ v. v.leaf) e), ap (λ v. v.continued) e),
    )

-- the test of lists of trees decides whether they are equal
forest_decided : (f g : Forest) → Decides (same_forest f g) (f ≡ g)
forest_decided none none = (λ e. refl, λ e. refl)
forest_decided none (item u d s) = (λ e. absurd (false≢true e), λ e. absurd cc)
forest_decided (item t c r) none = (λ e. absurd (false≢true e), λ e. absurd cc)
forest_decided (item t c r) (item u d s) =
    let parts = Decides-and (bytes_eq t u) (same_forest c d && same_forest r s) (bytes_eq-Decides t u)
    (Decides-and (same_forest c d) (same_forest r s) (forest_decided c d) (forest_decided r s)) in (
      λ e. let p = parts.0 e in let texts = p.0 in let children = p.1.0 in let rests = p.1.1 in cc,
      λ e. let texts : t ≡ u = cc in let children : c ≡ d = cc in let rests : r ≡ s = cc in parts.1 (texts, (children, rests)),
    )

-- the test of trees decides whether they are equal
pub tree_decided : (t u : Tree) → Decides (same_tree t u) (t ≡ u)
tree_decided t u =
    let parts = Decides-and (bytes_eq t.text u.text) (same_forest t.children u.children) (bytes_eq-Decides t.text u.text) (forest_decided t.children u.children) in (
      λ e. let p = parts.0 e in ap (λ z. tree z t.children) p.0 ∙ ap (λ z. tree u.text z) p.1,
      λ e. parts.1 (ap (λ (z : Tree). z.text) e, ap (λ (z : Tree). z.children) e),
    )

-- a test that decides whether two values are equal is an equivalence
equivalence : {X V : Type 0} (value : X → V) (same : X → X → Bool) → ((a b : X) → IsTrue (same a b) ↔ (value a ≡ value b)) → IsEquivalence same
equivalence value same decided =
    record {
      refl = λ a. (decided a a).1 refl;
      symm = λ a b. both_ways (same a b) (same b a) (λ h. (decided b a).1 (sym ((decided a b).0 h))) (λ h. (decided a b).1 (sym ((decided b a).0 h)));
      congr = λ a b c h. both_ways (same a c) (same b c)
          (λ g. (decided b c).1 (sym ((decided a b).0 h) ∙ (decided a c).0 g)) (λ g. (decided a c).1 ((decided a b).0 h ∙ (decided b c).0 g));
    }

-- `==` of characters is an equivalence, whatever value holds them
pub characters_equivalence : {X : Type 0} (value : X → Characters) → IsEquivalence (on value same_characters)
characters_equivalence value = equivalence value (on value same_characters) (λ a b. characters_decided (value a) (value b))

-- `==` of colours is an equivalence
pub color_equivalence : IsEquivalence same_color
color_equivalence = equivalence color_of same_color color_decided

-- `==` of styles is an equivalence
pub style_equivalence : IsEquivalence same_style
style_equivalence = equivalence style_of same_style style_decided

-- `==` of configurations is an equivalence
pub config_equivalence : IsEquivalence same_config
config_equivalence = equivalence config_of same_config config_decided

-- `==` of items is an equivalence: that of their trees
pub tree_equivalence : IsEquivalence (on tree_of same_tree)
tree_equivalence = equivalence tree_of (on tree_of same_tree) (λ a b. tree_decided (tree_of a) (tree_of b))
