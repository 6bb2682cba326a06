-- Nodes that a name means, and what stands above nodes.
use Rattle.trees.proofs.Common.{◌≡◌, ◌≢◌, ◌∙◌, ℕ, zero, suc, ◌+◌, ◌<◌, ◌≤◌, ◌||◌, Bool, true, false, cond, List, [], ◌∷◌, ◌++◌, length, get_or, map, inl, inr, refl, sym, ap, subst, All, Contains, Option, filter, option_map, unwrap_or, Result, IfOk, IfErr, bytes_eq, arith, cases_eq, cond-false, cond-true, false≢true, false_from_ne_true, All-head, filter_passes, slice_get_read, IfOk-weaker, IfErr-weaker, NodeIndex}
use Rattle.std.proofs.lemmas.List.{append-nil, length-map, map-append, map-id, nil_from_length}
use Rattle.std.proofs.lemmas.List.FromFn.{get_or-range_with_len, length-range_with_len, filter_of_map_range_with_len_more}
use Rattle.std.specs.List.{range_with_len}
use Rattle.trees.specs.declared.failure.Failure.{Failure}
use Rattle.trees.specs.Depending.{StandsAbove}
use Rattle.trees.specs.DependingParts.{is_meant, means_node, passing}
use Rattle.trees.specs.Naming.{is_all_of, is_labelled, is_part_of, passes_at, IsOnly, IsRootNode, LacksRoot}
use Rattle.trees.specs.Reading.{FailsFor}
use Rattle.trees.proofs.Reached.{passing_at}
use Rattle.trees.proofs.Readings.{fails_weaker}

-- ## Numbers that pass a test

module _ (test : ℕ → Bool) where
  -- one number more
  pub passing_more : (n : ℕ) (b : Bool) → test n ≡ b → passing test (n + 1) ≡ passing test n ++ cond b (n ∷ []) []
  passing_more n b is =
      let one = filter_of_map_range_with_len_more test (λ (k : ℕ). k) 0 n n (omega arith) in
      ap (filter test) (sym (map-id (range_with_len 0 (n + 1)))) ∙ (one ∙ (ap (λ ks. filter test ks ++ cond (test n) (n ∷ []) []) (map-id (range_with_len 0 n)) ∙ ap (λ (c : Bool). passing test n ++ cond c (n ∷ []) []) is))

  -- one that passes is there
  passing_has : (n k : ℕ) → k < n → test k ≡ true → Contains (passing test n) k
  passing_has n k low passes =
      passing_at test (range_with_len 0 n) k k (subst (λ (m : ℕ). k < m) (sym (length-range_with_len 0 n)) low) (get_or-range_with_len 0 n k k low ∙ (let same : 0 + k ≡ k = omega arith in same)) passes

  -- the first one passes
  first_passes : (n k : ℕ) (ks : List ℕ) → passing test n ≡ k ∷ ks → test k ≡ true
  first_passes n k ks is = All-head (λ (j : ℕ). test j ≡ true) k ks (subst (All (λ j. test j ≡ true)) is (filter_passes test (range_with_len 0 n)))

  -- if there is none, none passes
  pub none_passes : (n : ℕ) → ((k : ℕ) → test k ≡ true → k < n) → passing test n ≡ [] → (k : ℕ) → test k ≡ false
  none_passes n low none k = by (test k) refl where
    by : (b : Bool) → test k ≡ b → test k ≡ false
    by true is = (let c = subst (λ (ks : List ℕ). Contains ks k) none (passing_has n k (low k is) is) in absurd (omega (arith, c.1)))
    by false is = is

  -- if there is one, some number passes
  pub some_passes : (n : ℕ) (ks : List ℕ) → ks ≡ passing test n → length ks ≢ 0 → ((k : ℕ) → test k ≡ false) → ⊥
  some_passes n [] is some none = some refl
  some_passes n (k ∷ ks) is some none = false≢true (sym (none k) ∙ first_passes n k ks (sym is))

  in_one : (i k : ℕ) → Contains (i ∷ []) k → k ≡ i
  in_one i k c = by c.0 c.1 c.2 where
    by : (j : ℕ) → j < length (i ∷ []) → get_or (i ∷ []) j k ≡ k → k ≡ i
    by zero low at = sym at
    by (suc j) low at = absurd (omega arith)

  -- the only one in the list is the only one that passes
  pub only_passes : (n i : ℕ) → ((k : ℕ) → test k ≡ true → k < n) → passing test n ≡ i ∷ [] → IsOnly test i
  only_passes n i low is = (first_passes n i [] is, λ k passes. in_one i k (subst (λ (ks : List ℕ). Contains ks k) is (passing_has n k (low k passes) passes)))

  -- and the other way round
  module _ (i : ℕ) (only : IsOnly test i) where
    from_behind : (a n : ℕ) → i < a → filter test (range_with_len a n) ≡ []
    from_behind a zero past = refl
    from_behind a (suc n) past =
        cond-false (test a) (a ∷ filter test (range_with_len (a + 1) n)) (filter test (range_with_len (a + 1) n)) (false_from_ne_true (test a) (λ is. omega (arith, only.1 a is)))
        ∙ from_behind (a + 1) n (omega arith)

    from_before : (a n : ℕ) → a ≤ i → i < a + n → filter test (range_with_len a n) ≡ i ∷ []
    from_before a zero low high = absurd (omega arith)
    from_before a (suc n) low high = elim (cases_eq a i) [
      | inl same ↦
          cond-true (test a) (a ∷ filter test (range_with_len (a + 1) n)) (filter test (range_with_len (a + 1) n)) (ap test same ∙ only.0)
          ∙ (ap (λ (ks : List ℕ). a ∷ ks) (from_behind (a + 1) n (omega arith)) ∙ ap (λ (k : ℕ). k ∷ []) same)
      | inr other ↦
          cond-false (test a) (a ∷ filter test (range_with_len (a + 1) n)) (filter test (range_with_len (a + 1) n)) (false_from_ne_true (test a) (λ is. other (only.1 a is)))
          ∙ from_before (a + 1) n (omega (arith, other)) (omega arith)
    ]

    pub one_passes : (n : ℕ) → i < n → length (passing test n) ≡ 1
    one_passes n low = ap length (from_before 0 n (omega arith) (omega arith))

-- ## Nodes

-- a place that passes is one of a text
pub passes_below : (test : List ℕ → Bool) (texts : List (List ℕ)) (i : ℕ) → passes_at test texts i ≡ true → i < length texts
passes_below test [] i passes = absurd (false≢true passes)
passes_below test (t ∷ texts) zero passes = omega arith
passes_below test (t ∷ texts) (suc i) passes = let low = passes_below test texts i passes in omega arith

-- the nodes that were found among the first labels
abbrev pub AreNodes : Bool → List (List ℕ) → List (List ℕ) → List ℕ → ℕ → List NodeIndex → Type 0
AreNodes is_whole labels paths name i found = (i ≤ length labels) × (map (λ n. n.0) found ≡ passing (means_node is_whole labels paths name) i)

module _ (is_whole : Bool) (labels paths : List (List ℕ)) (name : List ℕ) (i : ℕ) (found : List NodeIndex) where
  -- all of them
  pub nodes_all : length labels ≤ i → AreNodes is_whole labels paths name i found → map (λ (n : NodeIndex). n.0) found ≡ passing (means_node is_whole labels paths name) (length labels)
  nodes_all end has = has.1 ∙ ap (passing (means_node is_whole labels paths name)) (let whole : i ≡ length labels = omega (arith, has.0) in whole)

  -- one label more
  module _ (label : List ℕ) (low : i < length labels) (is : label ≡ get_or labels i label) (has : AreNodes is_whole labels paths name i found) where
    tested : (b : Bool) → is_meant is_whole paths name i label ≡ b → means_node is_whole labels paths name i ≡ b
    tested b meant = ap (λ (o : Option (List ℕ)). unwrap_or (option_map (is_meant is_whole paths name i) o) false) (slice_get_read labels (length labels) i label refl low is) ∙ meant

    more : (b : Bool) → is_meant is_whole paths name i label ≡ b → passing (means_node is_whole labels paths name) (i + 1) ≡ map (λ (n : NodeIndex). n.0) found ++ cond b (i ∷ []) []
    more b meant = passing_more (means_node is_whole labels paths name) i b (tested b meant) ∙ ap (λ (ks : List ℕ). ks ++ cond b (i ∷ []) []) (sym has.1)

    pub nodes_push : (n : NodeIndex) → n.0 ≡ i → is_meant is_whole paths name i label ≡ true → AreNodes is_whole labels paths name (i + 1) (found ++ n ∷ [])
    nodes_push n at meant = (
      omega arith,
      map-append (λ (m : NodeIndex). m.0) found (n ∷ []) ∙ (ap (λ (k : ℕ). map (λ (m : NodeIndex). m.0) found ++ k ∷ []) at ∙ sym (more true meant)),
    )

    pub nodes_same : is_meant is_whole paths name i label ≡ false → AreNodes is_whole labels paths name (i + 1) found
    nodes_same meant = (omega arith, sym (append-nil (map (λ (n : NodeIndex). n.0) found)) ∙ sym (more false meant))

-- ## The node that a name means

module _ (labels paths : List (List ℕ)) (name : List ℕ) where
  low_all : (k : ℕ) → is_all_of labels paths name k ≡ true → k < length labels
  low_all k = passes_below (λ label. bytes_eq label name || passes_at (λ path. bytes_eq path name) paths k) labels k

  low_part : (k : ℕ) → is_part_of labels name k ≡ true → k < length labels
  low_part k = passes_below (is_labelled name) labels k

  module _ (whole : List NodeIndex) (is : map (λ (n : NodeIndex). n.0) whole ≡ passing (is_all_of labels paths name) (length labels)) (r : Result NodeIndex Failure) where
    -- the only one of those that it is all of
    pub named_whole : (found : List NodeIndex) → found ≡ whole → IfOk r (λ n. found ≡ n ∷ []) → IfOk r (λ n. IsRootNode labels paths name n.0)
    named_whole found same only =
        IfOk-weaker r (λ n. found ≡ n ∷ []) (λ n. IsRootNode labels paths name n.0)
        (λ n one. inl (only_passes (is_all_of labels paths name) (length labels) n.0 low_all (sym is ∙ ap (map (λ (m : NodeIndex). m.0)) (sym same ∙ one)))) only

    -- several of those
    pub unnamed_whole : (found : List NodeIndex) → found ≡ whole → length whole ≢ 0 → IfErr r (FailsFor (length found ≢ 1) ⊥) → IfErr r (FailsFor (LacksRoot labels paths name) ⊥)
    unnamed_whole found same some says =
        IfErr-weaker r (FailsFor (length found ≢ 1) ⊥) (FailsFor (LacksRoot labels paths name) ⊥) (λ e. fails_weaker (length found ≢ 1) (LacksRoot labels paths name) ⊥ e lacks) says where
          count : length (map (λ (n : NodeIndex). n.0) whole) ≡ length whole
          count = length-map whole (λ (n : NodeIndex). n.0)

          lacks : length found ≢ 1 → LacksRoot labels paths name
          lacks several = λ i root. elim root [
            | inl only ↦ several (ap length same ∙ (sym count ∙ (ap length is ∙ one_passes (is_all_of labels paths name) i only (length labels) (low_all i only.0))))
            | inr part ↦ some_passes (is_all_of labels paths name) (length labels) (map (λ (n : NodeIndex). n.0) whole) is (λ e. some (sym count ∙ e)) part.0
          ]

    module _ (empty : length whole ≡ 0) (parts : List NodeIndex) (so : map (λ (n : NodeIndex). n.0) parts ≡ passing (is_part_of labels name) (length labels)) where
      none : (k : ℕ) → is_all_of labels paths name k ≡ false
      none = none_passes (is_all_of labels paths name) (length labels) low_all (sym is ∙ ap (map (λ (n : NodeIndex). n.0)) (nil_from_length whole empty))

      -- the only one of those that it is a part of
      pub named_parts : (found : List NodeIndex) → found ≡ parts → IfOk r (λ n. found ≡ n ∷ []) → IfOk r (λ n. IsRootNode labels paths name n.0)
      named_parts found same only =
          IfOk-weaker r (λ n. found ≡ n ∷ []) (λ n. IsRootNode labels paths name n.0)
          (λ n one. inr (none, only_passes (is_part_of labels name) (length labels) n.0 low_part (sym so ∙ ap (map (λ (m : NodeIndex). m.0)) (sym same ∙ one)))) only

      -- none or several of those
      pub unnamed_parts : (found : List NodeIndex) → found ≡ parts → IfErr r (FailsFor (length found ≢ 1) ⊥) → IfErr r (FailsFor (LacksRoot labels paths name) ⊥)
      unnamed_parts found same says =
          IfErr-weaker r (FailsFor (length found ≢ 1) ⊥) (FailsFor (LacksRoot labels paths name) ⊥) (λ e. fails_weaker (length found ≢ 1) (LacksRoot labels paths name) ⊥ e lacks) says where
            lacks : length found ≢ 1 → LacksRoot labels paths name
            lacks several = λ i root. elim root [
              | inl only ↦ false≢true (sym (none i) ∙ only.0)
              | inr part ↦
                  several (ap length same ∙ (sym (length-map parts (λ (n : NodeIndex). n.0)) ∙ (ap length so ∙ one_passes (is_part_of labels name) i part.1 (length labels) (low_part i part.1.0))))
            ]

-- ## Roots

-- a root above nodes, unless there is one alone
pub stands_above : (label : List ℕ) (names : List (List ℕ)) (edges : List (ℕ × ℕ)) (tops : List ℕ) (texts : List (List ℕ)) (all : List (ℕ × ℕ)) (root : ℕ) → length tops ≢ 1 → root ≡ length names → texts ≡ names ++ label ∷ []
    → all ≡ edges ++ map (λ t. (length names, t)) tops → StandsAbove label names edges tops texts all root
stands_above label names edges (top ∷ []) texts all root several at labels is = absurd (several refl)
stands_above label names edges _ texts all root several at labels is = (at, labels, is)
