-- Marks of nodes.
use Rattle.trees.proofs.Common.{◌≡◌, ◌∙◌, ℕ, ◌+◌, ◌<◌, ◌≤◌, ◌⊎◌, not, Bool, true, false, cond, List, [], ◌∷◌, ◌++◌, length, get_or, set, take, inl, inr, refl, sym, ap, subst, length-set, All, Contains, count_by, arith, cases_eq, cases_lt, false≢true, not-true, All-contains, All-contains_itself, All-nil, All-push, All-weaker, Contains-append_left, Contains-push, Contains-push_cases, Any-from_list_any, list_any}
use Rattle.std.proofs.lemmas.List.{get_or_default, get_or_past, get_or-set_same, get_or-set_other, length_push, set-get_or, set_past, take_all, take_more}
use Rattle.std.proofs.lemmas.List.Sums.{count_by-le-length, sum_by-set}
use Rattle.trees.specs.Depending.{HasEach}
use Rattle.trees.specs.DependingParts.{is_marked, HasMarked}

-- ## One mark more

-- how much a mark counts among those that are not set
abbrev unset : Bool → ℕ
unset b = cond (not b) 1 0

module _ (marks : List Bool) (node : ℕ) where
  -- the nodes that are marked stay so
  pub mark_kept : HasMarked (is_marked (set marks node true)) marks
  mark_kept n has = elim (cases_lt node (length marks)) [
    | inl low ↦
        elim (cases_eq n node) [
          | inl same ↦ subst (λ (k : ℕ). is_marked (set marks node true) k ≡ true) (sym same) (get_or-set_same marks node true false low)
          | inr other ↦ get_or-set_other marks node n true false other ∙ has
        ]
    | inr past ↦ subst (λ ms. is_marked ms n ≡ true) (sym (set_past marks node true past)) has
  ]

  pub mark_there : node < length marks → is_marked (set marks node true) node ≡ true
  mark_there low = get_or-set_same marks node true false low

  -- and no other is
  pub mark_only : (n : ℕ) → is_marked (set marks node true) n ≡ true → (is_marked marks n ≡ true) ⊎ (n ≡ node)
  mark_only n has = elim (cases_eq n node) [ inl same ↦ inr same | inr other ↦ inl (sym (get_or-set_other marks node n true false other) ∙ has) ]

  -- a node that was not marked
  module _ (new : get_or marks node true ≡ false) where
    pub mark_low : node < length marks
    mark_low = elim (cases_lt node (length marks)) [ inl low ↦ low | inr past ↦ absurd (false≢true (sym new ∙ get_or_past marks node true past)) ]

    pub unmarked : is_marked marks node ≡ false
    unmarked = get_or_default marks node false true mark_low ∙ new

    mark_counts : count_by not (set marks node true) + 1 ≡ count_by not marks
    mark_counts =
        let own : unset (get_or marks node false) ≡ 1 = ap unset unmarked in
        omega (arith, sum_by-set unset marks node true false mark_low)

  -- one that was
  pub mark_same : get_or marks node true ≡ true → set marks node true ≡ marks
  mark_same is = ap (set marks node) (sym is) ∙ set-get_or marks node true

-- so not all are unmarked
pub marked_counts : (marks : List Bool) (node : ℕ) → is_marked marks node ≡ true → count_by not marks + 1 ≤ length marks
marked_counts marks node is = elim (cases_lt node (length marks)) [
  | inl low ↦
      let own : unset (get_or marks node false) ≡ 0 = ap unset is in
      omega (arith, sum_by-set unset marks node false false low, count_by-le-length not (set marks node false), length-set marks node false)
  | inr past ↦ absurd (false≢true (sym (get_or_past marks node false past) ∙ is))
]

-- ## What a node needs

-- these nodes are marked, and those that were not are left
pub record MarksAll (needs : List ℕ) (old new : List Bool) (left more : List ℕ) : Type 0 where
  pub size : length new ≡ length old
  pub kept : HasMarked (is_marked new) old
  pub still : All (Contains more) left
  pub added : (n : ℕ) → is_marked new n ≡ true → (is_marked old n ≡ true) ⊎ Contains more n
  pub each : All (λ n. n < length old → is_marked new n ≡ true) needs
  pub found : (has : ℕ → Bool) → HasEach has needs → HasMarked has old → HasEach has left → HasMarked has new × HasEach has more
  pub count : count_by not new + length more ≡ count_by not old + length left

pub marks_none : (marks : List Bool) (left : List ℕ) → MarksAll [] marks marks left left
marks_none marks left = record {
  size = refl;
  kept = λ n is. is;
  still = All-contains_itself left;
  added = λ n is. inl is;
  each = All-nil (λ n. n < length marks → is_marked marks n ≡ true);
  found = λ has each marked all. (marked, all);
  count = refl;
}

-- the elements before the last one, and that
pub front_of : {X : Type 0} (P : X → Type 0) (xs : List X) (x : X) → All P (xs ++ x ∷ []) → All P xs × P x
front_of P xs x all = (
  All-weaker (Contains xs) P (λ y c. All-contains P (xs ++ x ∷ []) y all (Contains-append_left xs (x ∷ []) y c)) xs (All-contains_itself xs),
  All-contains P (xs ++ x ∷ []) x all (Contains-push xs x),
)

module _ (needs : List ℕ) (old new : List Bool) (left more : List ℕ) (node : ℕ) (so : MarksAll needs old new left more) where
  -- one node more that was not marked
  pub marks_new : get_or new node true ≡ false → MarksAll (needs ++ node ∷ []) old (set new node true) left (more ++ node ∷ [])
  marks_new is = record {
    size = length-set new node true ∙ so.size;
    kept = λ n has. mark_kept new node n (so.kept n has);
    still = All-weaker (Contains more) (Contains (more ++ node ∷ [])) (Contains-append_left more (node ∷ [])) left so.still;
    added = λ n has. elim (mark_only new node n has) [
      | inl was ↦ elim (so.added n was) [ inl first ↦ inl first | inr c ↦ inr (Contains-append_left more (node ∷ []) n c) ]
      | inr same ↦ inr (subst (Contains (more ++ node ∷ [])) (sym same) (Contains-push more node))
    ];
    each = All-push (λ n. n < length old → is_marked (set new node true) n ≡ true) needs node
        (All-weaker (λ n. n < length old → is_marked new n ≡ true) (λ n. n < length old → is_marked (set new node true) n ≡ true) (λ n h low. mark_kept new node n (h low)) needs so.each)
        (λ low. mark_there new node (mark_low new node is));
    found = λ has each marked all.
        let front = front_of (λ n. has n ≡ true) needs node each in
        let rest = so.found has front.0 marked all in (
          λ n m. elim (mark_only new node n m) [ inl was ↦ rest.0 n was | inr same ↦ subst (λ (k : ℕ). has k ≡ true) (sym same) front.1 ],
          All-push (λ n. has n ≡ true) more node rest.1 front.1,
        );
    count = omega (arith, mark_counts new node is, length_push more node, so.count);
  }

  -- one more that was
  pub marks_same : get_or new node true ≡ true → MarksAll (needs ++ node ∷ []) old (set new node true) left more
  marks_same is = subst (λ ms. MarksAll (needs ++ node ∷ []) old ms left more) (sym (mark_same new node is)) (record {
    size = so.size;
    kept = so.kept;
    still = so.still;
    added = so.added;
    each = All-push (λ n. n < length old → is_marked new n ≡ true) needs node so.each (λ low. get_or_default new node false true (let same = so.size in omega arith) ∙ is);
    found = λ has each. so.found has (front_of (λ n. has n ≡ true) needs node each).0;
    count = so.count;
  })

-- ## Nodes by their marks

-- nodes that have marks, and each that has one of these
pub record AreMarked (marks turns : List Bool) (nodes : List ℕ) : Type 0 where
  pub low : All (λ n. n < length marks) nodes
  pub all : (n : ℕ) → n < length marks → Contains turns (is_marked marks n) → Contains nodes n

-- and of the first ones each that has this one
pub record AreMarkedUpTo (marks turns : List Bool) (turn : Bool) (i : ℕ) (nodes : List ℕ) : Type 0 where
  pub before : AreMarked marks turns nodes
  pub more : (n : ℕ) → n < i → is_marked marks n ≡ turn → Contains nodes n

module _ (marks turns : List Bool) (turn : Bool) (nodes : List ℕ) (i : ℕ) (so : AreMarkedUpTo marks turns turn i nodes) where
  -- one node more that has it, or not
  pub turn_new : i < length marks → AreMarkedUpTo marks turns turn (i + 1) (nodes ++ i ∷ [])
  turn_new low = record {
    before = record {
      low = All-push (λ n. n < length marks) nodes i so.before.low low;
      all = λ n below c. Contains-append_left nodes (i ∷ []) n (so.before.all n below c);
    };
    more = λ n below is. elim (cases_eq n i) [
      | inl same ↦ subst (Contains (nodes ++ i ∷ [])) (sym same) (Contains-push nodes i)
      | inr other ↦ Contains-append_left nodes (i ∷ []) n (so.more n (omega arith) is)
    ];
  }

  pub turn_same : (is_marked marks i ≡ turn → ⊥) → AreMarkedUpTo marks turns turn (i + 1) nodes
  turn_same not' = record {
    before = so.before;
    more = λ n below is. elim (cases_eq n i) [
      | inl same ↦ absurd (not' (subst (λ (k : ℕ). is_marked marks k ≡ turn) same is))
      | inr other ↦ so.more n (omega arith) is
    ];
  }

-- all of them
pub turn_all : (marks turns : List Bool) (k i : ℕ) (nodes : List ℕ) → k < length turns → length marks ≤ i → AreMarkedUpTo marks (take k turns) (get_or turns k false) i nodes → AreMarked marks (take (k + 1) turns) nodes
turn_all marks turns k i nodes more end so = subst (λ ts. AreMarked marks ts nodes) (sym (take_more turns k false more)) (record {
  low = so.before.low;
  all = λ n low c. elim (Contains-push_cases (take k turns) (get_or turns k false) (is_marked marks n) c) [
    | inl first ↦ so.before.all n low first
    | inr same ↦ so.more n (omega arith) (sym same)
  ];
})

-- these are all nodes if marks that are set and marks that are not had their turn
pub turns_all : (marks turns : List Bool) (k : ℕ) (nodes : List ℕ) → length turns ≤ k → list_any not turns ≡ true → list_any (λ b. b) turns ≡ true → AreMarked marks (take k turns) nodes → (n : ℕ) → n < length marks → Contains nodes n
turns_all marks turns k nodes end off on so n low = so.all n low (subst (λ ts. Contains ts (is_marked marks n)) (sym (take_all k turns end)) (either (is_marked marks n))) where
  either : (b : Bool) → Contains turns b
  either true = let at = Any-from_list_any (λ b. b) turns on in subst (Contains turns) at.4 (at.0, at.2, at.3)
  either false = let at = Any-from_list_any not turns off in subst (Contains turns) (not-true at.1 at.4) (at.0, at.2, at.3)
