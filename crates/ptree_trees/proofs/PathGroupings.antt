-- Groups of paths by their first names, made one path after another.
use Rattle.std.specs.Cmp.Lexicographic.{slice_cmp}
use Rattle.std.specs.List.{AllByRecursion}
use Rattle.std.specs.List.Sorted.{IsStrictlySortedBy}
use Rattle.std.specs.Option.{option_to_list}
use Rattle.std.specs.Ordering.{nat_cmp, is_lt, is_eq}
use Rattle.std.specs.Prelude.{is_some, ◌||◌}
use Rattle.std.specs.Str.{bytes_eq}
use Rattle.std.specs.declared.cmp.Ordering.TheVariants.{Less}
use Rattle.std.proofs.Common.{◌≡◌, ℕ, true, false, cond, Some, List, [], ◌∷◌, ◌++◌, map, refl, sym, ap, ◌∙◌, subst, append-nil, append_assoc, arith}
use Rattle.std.proofs.Math.Bool.{or-true}
use Rattle.std.proofs.lemmas.Bool.{false≢true, or_from}
use Rattle.std.proofs.lemmas.Cmp.{nat_list_cmp_total}
use Rattle.std.proofs.lemmas.List.{map-append}
use Rattle.std.proofs.lemmas.List.Elements.{filter-append}
use Rattle.std.proofs.lemmas.Map.Text.{is_eq-slice_cmp}
use Rattle.std.proofs.lemmas.Slice.Eq.{bytes_eq-Decides}
use Rattle.ptree_trees.proofs.NameOrders.{same_flip}
use Rattle.ptree_trees.proofs.PathTrees.{has_push}
use Rattle.ptree_trees.specs.Paths.{has_name}
use Rattle.ptree_trees.specs.PathGroups.{Cut, named, tails_in, first_in, PathGroup, group_from, with_tail, group_names, IsGrouping, NoneAbove}

-- ## Names

-- the names of cut paths
abbrev cut_names : List Cut → List (List ℕ)
cut_names cs = map (λ c. c.name) cs

-- a name among those of groups with one more
has_group : (gs : List PathGroup) (g : PathGroup) (n : List ℕ) → has_name (group_names (gs ++ g ∷ [])) n ≡ (has_name (group_names gs) n || bytes_eq g.name n)
has_group gs g n = ap (λ ms. has_name ms n) (map-append (λ (h : PathGroup). h.name) gs (g ∷ [])) ∙ has_push (group_names gs) g.name n

-- a name among those of paths with one more
has_cut : (cs : List Cut) (c : Cut) (n : List ℕ) → has_name (cut_names (cs ++ c ∷ [])) n ≡ (has_name (cut_names cs) n || bytes_eq c.name n)
has_cut cs c n = ap (λ ms. has_name ms n) (map-append (λ (d : Cut). d.name) cs (c ∷ [])) ∙ has_push (cut_names cs) c.name n

-- ## The order of names

-- a lesser name is another
less_apart : (a b : List ℕ) → slice_cmp nat_cmp a b ≡ Less → bytes_eq a b ≡ false
less_apart a b e = sym (is_eq-slice_cmp a b) ∙ ap is_eq e

-- and so the other way round
apart_flip : (a b : List ℕ) → bytes_eq a b ≡ false → bytes_eq b a ≡ false
apart_flip a b e = same_flip b a ∙ e

-- a name that is not above another, and not the same, is less
less_if : (a b : List ℕ) → is_lt (slice_cmp nat_cmp b a) ≡ false → (a ≡ b → ⊥) → slice_cmp nat_cmp a b ≡ Less
less_if a b up other = grind (arith, (bytes_eq-Decides b a).0, is_eq-slice_cmp b a, nat_list_cmp_total.antisymm a b)

-- no name of the paths is above
not_above : (cs : List Cut) (n m : List ℕ) → NoneAbove cs n → has_name (cut_names cs) m ≡ true → is_lt (slice_cmp nat_cmp n m) ≡ false
not_above [] n m h k = absurd (false≢true k)
not_above (c ∷ cs) n m h k = grind (arith, (bytes_eq-Decides c.name m).0, h.0, not_above cs n m h.1)

-- the names of these groups are less than this one
abbrev AllLess : List PathGroup → List ℕ → Type 0
AllLess gs n = AllByRecursion (λ g. slice_cmp nat_cmp g.name n ≡ Less) gs

-- a name above those of groups is not among them
has_none : (gs : List PathGroup) (n : List ℕ) → AllLess gs n → has_name (group_names gs) n ≡ false
has_none [] n h = refl
has_none (g ∷ gs) n h = or_from (bytes_eq g.name n) (has_name (group_names gs) n) (less_apart g.name n h.0) (has_none gs n h.1)

-- the last group's name is above the others
last_above : (gs : List PathGroup) (g : PathGroup) → IsStrictlySortedBy (slice_cmp nat_cmp) (group_names (gs ++ g ∷ [])) → AllLess gs g.name
unfolding IsStrictlySortedBy
last_above [] g s = tt
last_above (h ∷ gs) g s = (last gs s.0, last_above gs g s.1) where
  last : (hs : List PathGroup) → AllByRecursion (λ n. slice_cmp nat_cmp h.name n ≡ Less) (group_names (hs ++ g ∷ [])) → slice_cmp nat_cmp h.name g.name ≡ Less
  last [] a = a.0
  last (k ∷ hs) a = last hs a.1

-- what is above a group's name is above those that are less
still_less : (gs : List PathGroup) (m n : List ℕ) → AllLess gs m → slice_cmp nat_cmp m n ≡ Less → AllLess gs n
still_less [] m n h e = tt
still_less (g ∷ gs) m n h e = (nat_list_cmp_total.trans g.name m n h.0 e, still_less gs m n h.1 e)

-- groups with one more whose name is above theirs ascend
ascend_more : (gs : List PathGroup) (g : PathGroup) → IsStrictlySortedBy (slice_cmp nat_cmp) (group_names gs) → AllLess gs g.name
    → IsStrictlySortedBy (slice_cmp nat_cmp) (group_names (gs ++ g ∷ []))
unfolding IsStrictlySortedBy
ascend_more [] g s h = (tt, tt)
ascend_more (k ∷ gs) g s h = (push gs s.0, ascend_more gs g s.1 h.1) where
  push : (hs : List PathGroup) → AllByRecursion (λ n. slice_cmp nat_cmp k.name n ≡ Less) (group_names hs) → AllByRecursion (λ n. slice_cmp nat_cmp k.name n ≡ Less) (group_names (hs ++ g ∷ []))
  push [] a = (h.0, tt)
  push (l ∷ hs) a = (a.0, push hs a.1)

-- no names ascend
none_ascend : IsStrictlySortedBy (slice_cmp nat_cmp) []
unfolding IsStrictlySortedBy
none_ascend = tt

-- ## The paths of a name

-- the paths of a name, with one more of that name
named_same : (n : List ℕ) (cs : List Cut) (c : Cut) → bytes_eq c.name n ≡ true → named n (cs ++ c ∷ []) ≡ named n cs ++ c ∷ []
named_same n cs c e = filter-append (λ d. bytes_eq d.name n) cs (c ∷ []) ∙ ap (λ b. named n cs ++ cond b (c ∷ []) []) e

-- the paths of a name, with one more of another
named_other : (n : List ℕ) (cs : List Cut) (c : Cut) → bytes_eq c.name n ≡ false → named n (cs ++ c ∷ []) ≡ named n cs
named_other n cs c e = filter-append (λ d. bytes_eq d.name n) cs (c ∷ []) ∙ ap (λ b. named n cs ++ cond b (c ∷ []) []) e ∙ append-nil (named n cs)

-- whether there is a path of a name
has_named : (n : List ℕ) (cs : List Cut) → has_name (cut_names cs) n ≡ is_some (first_in (named n cs))
has_named n [] = refl
has_named n (c ∷ cs) = grind (arith, has_named n cs)

-- if there is none, these are none
named_none : (n : List ℕ) (cs : List Cut) → has_name (cut_names cs) n ≡ false → named n cs ≡ []
named_none n cs h = grind (arith, has_named n cs)

-- what follows the names of paths and of one more
tails_push : (cs : List Cut) (c : Cut) → tails_in (cs ++ c ∷ []) ≡ tails_in cs ++ option_to_list c.tail
tails_push [] c = append-nil (option_to_list c.tail)
tails_push (d ∷ cs) c = ap (λ ts. option_to_list d.tail ++ ts) (tails_push cs c) ∙ sym (append_assoc (option_to_list d.tail) (tails_in cs) (option_to_list c.tail))

-- the first of paths stays the first
first_push : (cs : List Cut) (c : Cut) (i : ℕ) → Some i ≡ first_in cs → Some i ≡ first_in (cs ++ c ∷ [])
first_push [] c i e = absurd (cc)
first_push (d ∷ cs) c i e = e

-- ## Groups

-- the group is that of its name's paths
abbrev IsGroupOf : List Cut → PathGroup → Type 0
IsGroupOf cs g = (g.tails ≡ tails_in (named g.name cs)) × (Some g.first ≡ first_in (named g.name cs))

module _ {X : Type 0} (P : X → Type 0) where
  -- what holds of all holds of those before the last
  all_front : (xs : List X) (x : X) → AllByRecursion P (xs ++ x ∷ []) → AllByRecursion P xs
  all_front [] x h = tt
  all_front (y ∷ xs) x h = (h.0, all_front xs x h.1)

  -- and of the last
  all_last : (xs : List X) (x : X) → AllByRecursion P (xs ++ x ∷ []) → P x
  all_last [] x h = h.0
  all_last (y ∷ xs) x h = all_last xs x h.1

  -- what holds of some and of one more holds of all
  all_push : (xs : List X) (x : X) → AllByRecursion P xs → P x → AllByRecursion P (xs ++ x ∷ [])
  all_push [] x h p = (p, tt)
  all_push (y ∷ xs) x h p = (h.0, all_push xs x h.1 p)

-- the group of a name stays so with a path of another
group_other : (cs : List Cut) (c : Cut) (g : PathGroup) → bytes_eq c.name g.name ≡ false → IsGroupOf cs g → IsGroupOf (cs ++ c ∷ []) g
group_other cs c g e h = let as_before = sym (named_other g.name cs c e) in (h.0 ∙ ap tails_in as_before, h.1 ∙ ap first_in as_before)

-- the groups of lesser names stay so
groups_other : (cs : List Cut) (c : Cut) (gs : List PathGroup) → AllLess gs c.name → AllByRecursion (IsGroupOf cs) gs → AllByRecursion (IsGroupOf (cs ++ c ∷ [])) gs
groups_other cs c [] less h = tt
groups_other cs c (g ∷ gs) less h = (group_other cs c g (apart_flip g.name c.name (less_apart g.name c.name less.0)) h.0, groups_other cs c gs less.1 h.1)

-- the group of a name, with a path more
group_same : (cs : List Cut) (c : Cut) (g : PathGroup) → g.name ≡ c.name → IsGroupOf cs g → IsGroupOf (cs ++ c ∷ []) (with_tail g c)
group_same cs c g e h =
    let more = named_same g.name cs c ((bytes_eq-Decides c.name g.name).1 (sym e)) in (
      ap (λ ts. ts ++ option_to_list c.tail) h.0 ∙ sym (ap tails_in more ∙ tails_push (named g.name cs) c),
      first_push (named g.name cs) c g.first h.1 ∙ sym (ap first_in more),
    )

-- the group of the first path of a name
group_new : (cs : List Cut) (c : Cut) → has_name (cut_names cs) c.name ≡ false → IsGroupOf (cs ++ c ∷ []) (group_from c)
group_new cs c h =
    let one : named c.name (cs ++ c ∷ []) ≡ c ∷ [] = named_same c.name cs c ((bytes_eq-Decides c.name c.name).1 refl) ∙ ap (λ ds. ds ++ c ∷ []) (named_none c.name cs h) in
    (sym (ap tails_in one ∙ append-nil (option_to_list c.tail)), sym (ap first_in one))

-- ## Groupings

-- no paths have no groups
pub grouping_none : IsGrouping [] []
grouping_none = record { ascending = none_ascend; has = λ n. refl; each = tt }

-- one path more of a name that is not among those of the groups, and above them
grouping_more : (cs : List Cut) (gs : List PathGroup) (c : Cut) → IsGrouping cs gs → AllLess gs c.name → IsGrouping (cs ++ c ∷ []) (gs ++ group_from c ∷ [])
grouping_more cs gs c h less = record {
  ascending = ascend_more gs (group_from c) h.ascending less;
  has = λ n. has_group gs (group_from c) n ∙ ap (λ b. b || bytes_eq c.name n) (h.has n) ∙ sym (has_cut cs c n);
  each = all_push (IsGroupOf (cs ++ c ∷ [])) gs (group_from c) (groups_other cs c gs less h.each) (group_new cs c (sym (h.has c.name) ∙ has_none gs c.name less));
}

-- the first path makes the first group
pub grouping_first : (cs : List Cut) (c : Cut) → IsGrouping cs [] → IsGrouping (cs ++ c ∷ []) (group_from c ∷ [])
grouping_first cs c h = grouping_more cs [] c h tt

-- one path more of the last group's name
pub grouping_same : (cs : List Cut) (gs : List PathGroup) (g : PathGroup) (c : Cut) → IsGrouping cs (gs ++ g ∷ []) → g.name ≡ c.name → IsGrouping (cs ++ c ∷ []) (gs ++ with_tail g c ∷ [])
grouping_same cs gs g c h e = record {
  ascending = subst (IsStrictlySortedBy (slice_cmp nat_cmp)) (map-append (λ (k : PathGroup). k.name) gs (g ∷ []) ∙ sym (map-append (λ (k : PathGroup). k.name) gs (with_tail g c ∷ []))) h.ascending;
  has = λ n. grind (arith, has_group gs (with_tail g c) n, has_group gs g n, h.has n, e, has_cut cs c n);
  each = all_push (IsGroupOf (cs ++ c ∷ [])) gs (with_tail g c)
      (groups_other cs c gs (subst (AllLess gs) e (last_above gs g h.ascending)) (all_front (IsGroupOf cs) gs g h.each)) (group_same cs c g e (all_last (IsGroupOf cs) gs g h.each));
}

-- one path more of a name that none is above, and that is not the last group's
pub grouping_next : (cs : List Cut) (gs : List PathGroup) (g : PathGroup) (c : Cut) → IsGrouping cs (gs ++ g ∷ []) → NoneAbove cs c.name → (g.name ≡ c.name → ⊥)
    → IsGrouping (cs ++ c ∷ []) ((gs ++ g ∷ []) ++ group_from c ∷ [])
grouping_next cs gs g c h up other = grouping_more cs (gs ++ g ∷ []) c h (all_push (λ k. slice_cmp nat_cmp k.name c.name ≡ Less) gs g (still_less gs g.name c.name (last_above gs g h.ascending) less) less)
  where
    known : has_name (cut_names cs) g.name ≡ true
    known = sym (h.has g.name) ∙ has_group gs g g.name ∙ ap (λ b. has_name (group_names gs) g.name || b) ((bytes_eq-Decides g.name g.name).1 refl) ∙ or-true (has_name (group_names gs) g.name)

    less : slice_cmp nat_cmp g.name c.name ≡ Less
    less = less_if g.name c.name (not_above cs c.name g.name up known) other

-- the same paths by names, in another order of names
pub grouping_moved : (xs ys : List Cut) (gs : List PathGroup) → ((n : List ℕ) → named n ys ≡ named n xs) → IsGrouping ys gs → IsGrouping xs gs
grouping_moved xs ys gs moved h = record {
  ascending = h.ascending;
  has = λ n. h.has n ∙ has_named n ys ∙ ap (λ ds. is_some (first_in ds)) (moved n) ∙ sym (has_named n xs);
  each = each gs h.each;
} where
  each : (ks : List PathGroup) → AllByRecursion (IsGroupOf ys) ks → AllByRecursion (IsGroupOf xs) ks
  each [] a = tt
  each (k ∷ ks) a = ((a.0.0 ∙ ap tails_in (moved k.name), a.0.1 ∙ ap first_in (moved k.name)), each ks a.1)
