-- The names of paths.
use Rattle.trees.proofs.Common.{◌≡◌, ◌≢◌, ◌∙◌, ℕ, zero, suc, ◌+◌, ◌-◌, ◌<◌, ◌≤◌, ◌&&◌, Bool, true, false, cond, eqb, ltb, Option, Some, None, List, [], ◌∷◌, ◌++◌, length, drop, inl, inr, lit<, refl, sym, ap, subst, Bor, IfSome, MatchOption, is_some, option_map, slice_get, arith, encode_ascii, drop_at_char, both_ways}
use Rattle.std.proofs.lemmas.Bool.{eqb-true, ne_eqb, le-ltb, lt-ltb, ltb-true, and_right}
use Rattle.std.proofs.lemmas.List.{take-append-drop, drop_all}
use Rattle.std.specs.List.{list_all, slice_split, onto_first}
use Rattle.std.specs.Str.Pattern.{FindsCharSuffix, CutsSuffixes, IsTrimEndMatches}
use Rattle.ptree_trees.specs.Paths.{with_first, names}
use Rattle.ptree_trees.proofs.PathTrees.{names_some}
use Rattle.trees.specs.Listing.{is_start, is_empty, from_first, to_last}
use Rattle.trees.specs.ListingParts.{own_names, IsBehindStart}

-- ## The start

-- what is before the rest doesn't count
pub skip_start : (path rest : List ℕ) → IsBehindStart path rest → from_first (names 47 rest) ≡ from_first (names 47 path)
skip_start path rest h =
    elim h [ inl e ↦ ap (λ (p : List ℕ). from_first (names 47 p)) (sym e) | inr e ↦ ap (λ (p : List ℕ). from_first (names 47 p)) (sym e) ]

-- the rest is shorter
pub behind_shorter : (path rest : List ℕ) → IsBehindStart path rest → length rest < length path
behind_shorter path rest h = elim h [
  | inl e ↦ let long : length path ≡ length (47 ∷ rest) = ap (λ (p : List ℕ). length p) e in omega (arith, long)
  | inr e ↦ let long : length path ≡ length (46 ∷ 47 ∷ rest) = ap (λ (p : List ℕ). length p) e in omega (arith, long)
]

-- what is behind `./` is behind the start, and nothing is if a slash isn't there either
pub behind_either : (path : List ℕ) (r : Option (Bor (List ℕ))) → ((rest : List ℕ) → path ≢ 47 ∷ rest)
    → MatchOption r ((rest : List ℕ) → path ≢ 46 ∷ 47 ∷ rest) (λ x. path ≡ 46 ∷ 47 ∷ x.now)
    → MatchOption r ((rest : List ℕ) → IsBehindStart path rest → ⊥) (λ x. IsBehindStart path x.now)
behind_either path None lacks h = λ rest s. elim s [ inl e ↦ lacks rest e | inr e ↦ h rest e ]
behind_either path (Some x) lacks h = inr h

-- names of which the first one counts stay
kept_first : (path n : List ℕ) (ns : List (List ℕ)) → names 47 path ≡ n ∷ ns → is_start n ≡ false → names 47 path ≡ from_first (names 47 path)
kept_first path n ns e s = e ∙ (sym (ap (λ (x : Bool). cond x (from_first ns) (n ∷ ns)) s) ∙ ap from_first (sym e))

-- a first name with a byte before it
with_first_is : (c : ℕ) (ns : List (List ℕ)) → (n : List ℕ) × (rest : List (List ℕ)) × (with_first c ns ≡ (c ∷ n) ∷ rest)
with_first_is c [] = ([], [], refl)
with_first_is c (n ∷ ns) = (n, ns, refl)

-- all names count of a path that is nothing but `.` or behind no start
pub start_done : (path : List ℕ) → ((rest : List ℕ) → IsBehindStart path rest → ⊥) → path ≢ 46 ∷ [] → own_names path ≡ from_first (names 47 path)
start_done [] lacks dot = refl
start_done (b ∷ []) lacks dot =
    let other : eqb b 47 ≡ false = ne_eqb b 47 (λ e. lacks [] (inl (ap (λ (z : ℕ). z ∷ []) e))) in
    let named : names 47 (b ∷ []) ≡ (b ∷ []) ∷ [] = ap (λ (x : Bool). cond x ([] ∷ [] ∷ []) ((b ∷ []) ∷ [])) other in
    kept_first (b ∷ []) (b ∷ []) [] named (ne_eqb b 46 (λ e. dot (ap (λ (z : ℕ). z ∷ []) e)))
start_done (b ∷ c ∷ t) lacks dot = at (eqb c 47) refl where
  plain : names 47 (b ∷ c ∷ t) ≡ with_first b (names 47 (c ∷ t))
  plain =
      ap (λ (x : Bool). cond x ([] ∷ names 47 (c ∷ t)) (with_first b (names 47 (c ∷ t)))) (ne_eqb b 47 (λ e. lacks (c ∷ t) (inl (ap (λ (z : ℕ). z ∷ c ∷ t) e))))

  at : (x : Bool) → eqb c 47 ≡ x → names 47 (b ∷ c ∷ t) ≡ from_first (names 47 (b ∷ c ∷ t))
  at true e =
      let next : names 47 (c ∷ t) ≡ [] ∷ names 47 t = ap (λ (x : Bool). cond x ([] ∷ names 47 t) (with_first c (names 47 t))) e in
      let slash : c ≡ 47 = eqb-true c 47 e in
      let first : is_start (b ∷ []) ≡ false = ne_eqb b 46 (λ d. lacks t (inr (ap (λ (z : ℕ). z ∷ c ∷ t) d ∙ ap (λ (z : ℕ). 46 ∷ z ∷ t) slash))) in
      kept_first (b ∷ c ∷ t) (b ∷ []) (names 47 t) (plain ∙ ap (with_first b) next) first
  at false e =
      let w = with_first_is c (names 47 t) in
      let next : names 47 (c ∷ t) ≡ (c ∷ w.0) ∷ w.1 = ap (λ (x : Bool). cond x ([] ∷ names 47 t) (with_first c (names 47 t))) e ∙ w.2 in
      kept_first (b ∷ c ∷ t) (b ∷ c ∷ w.0) w.1 (plain ∙ ap (with_first b) next) refl

-- ## The end

-- a slash at the end adds an empty name
names_push : (r : List ℕ) → names 47 (r ++ 47 ∷ []) ≡ names 47 r ++ [] ∷ []
names_push [] = refl
names_push (b ∷ t) = at (eqb b 47) (names_push t) where
  first : (ns : List (List ℕ)) → ns ≢ [] → with_first b (ns ++ [] ∷ []) ≡ with_first b ns ++ [] ∷ []
  first [] h = absurd (h refl)
  first (n ∷ ns) h = refl

  at : (x : Bool) → names 47 (t ++ 47 ∷ []) ≡ names 47 t ++ [] ∷ []
      → cond x ([] ∷ names 47 (t ++ 47 ∷ [])) (with_first b (names 47 (t ++ 47 ∷ []))) ≡ cond x ([] ∷ names 47 t) (with_first b (names 47 t)) ++ [] ∷ []
  at true e = ap (λ (z : List (List ℕ)). [] ∷ z) e
  at false e = ap (with_first b) e ∙ first (names 47 t) (names_some 47 t)

-- with an empty name at the end, the same names are empty
all_push : (ns : List (List ℕ)) → list_all is_empty (ns ++ [] ∷ []) ≡ list_all is_empty ns
all_push [] = refl
all_push (n ∷ ns) = ap (λ (x : Bool). is_empty n && x) (all_push ns)

-- it doesn't count
to_last_push : (ns : List (List ℕ)) → to_last (ns ++ [] ∷ []) ≡ to_last ns
to_last_push [] = refl
to_last_push (n ∷ ns) =
    ap (λ (x : Bool). cond (is_empty n && x) [] (n ∷ to_last (ns ++ [] ∷ []))) (all_push ns) ∙ ap (λ (z : List (List ℕ)). cond (is_empty n && list_all is_empty ns) [] (n ∷ z)) (to_last_push ns)

-- nor does the slash
cut_slash : (r : List ℕ) → to_last (own_names (r ++ 47 ∷ [])) ≡ to_last (own_names r)
cut_slash [] = refl
cut_slash (b ∷ t) = ap to_last (names_push (b ∷ t)) ∙ to_last_push (names 47 (b ∷ t))

-- the last name is not empty
abbrev IsFull : List (List ℕ) → Type 0
IsFull [] = ⊥
IsFull (n ∷ []) = is_empty n ≡ false
IsFull (n ∷ m ∷ ns) = IsFull (m ∷ ns)

-- then not all are
some_full : (ns : List (List ℕ)) → IsFull ns → list_all is_empty ns ≡ false
some_full [] h = absurd h
some_full (n ∷ []) h = ap (λ (x : Bool). x && true) h
some_full (n ∷ m ∷ ns) h = and_right (is_empty n) (list_all is_empty (m ∷ ns)) (some_full (m ∷ ns) h)

-- and all count
whole_full : (ns : List (List ℕ)) → IsFull ns → to_last ns ≡ ns
whole_full [] h = absurd h
whole_full (n ∷ []) h = ap (λ (x : Bool). cond (x && true) [] (n ∷ [])) h
whole_full (n ∷ m ∷ ns) h =
    ap (λ (x : Bool). cond x [] (n ∷ to_last (m ∷ ns))) (and_right (is_empty n) (list_all is_empty (m ∷ ns)) (some_full (m ∷ ns) h)) ∙ ap (λ (z : List (List ℕ)). n ∷ z) (whole_full (m ∷ ns) h)

-- a byte more before the first name, and an empty name more, leave the last one so
first_full : (b : ℕ) (ns : List (List ℕ)) → IsFull ns → IsFull (with_first b ns)
first_full b [] h = absurd h
first_full b (n ∷ []) h = refl
first_full b (n ∷ m ∷ ns) h = h

front_full : (ns : List (List ℕ)) → IsFull ns → IsFull ([] ∷ ns)
front_full [] h = absurd h
front_full (n ∷ ns) h = h

-- that of a path that does not end in a slash is not empty
names_full : (b : ℕ) (t : List ℕ) → ((front : List ℕ) → b ∷ t ≢ front ++ 47 ∷ []) → IsFull (names 47 (b ∷ t))
names_full b [] lacks =
    let other : eqb b 47 ≡ false = ne_eqb b 47 (λ e. lacks [] (ap (λ (z : ℕ). z ∷ []) e)) in
    subst IsFull (sym (ap (λ (x : Bool). cond x ([] ∷ [] ∷ []) ((b ∷ []) ∷ [])) other)) refl
names_full b (c ∷ t) lacks = at (eqb b 47) (names_full c t (λ front e. lacks (b ∷ front) (ap (λ (z : List ℕ). b ∷ z) e))) where
  at : (x : Bool) → IsFull (names 47 (c ∷ t)) → IsFull (cond x ([] ∷ names 47 (c ∷ t)) (with_first b (names 47 (c ∷ t))))
  at true h = front_full (names 47 (c ∷ t)) h
  at false h = first_full b (names 47 (c ∷ t)) h

-- so all its names count
own_whole : (r : List ℕ) → ((front : List ℕ) → r ≢ front ++ 47 ∷ []) → own_names r ≡ to_last (own_names r)
own_whole [] lacks = refl
own_whole (b ∷ t) lacks = sym (whole_full (names 47 (b ∷ t)) (names_full b t lacks))

-- slashes that are cut off don't count
cut_suffixes : (ns s r : List ℕ) → CutsSuffixes (FindsCharSuffix 47) s ns r → to_last (own_names s) ≡ to_last (own_names r)
cut_suffixes [] s r h = ap (λ (z : List ℕ). to_last (own_names z)) (sym h)
cut_suffixes (n ∷ ns) s r h =
    let m : List ℕ = h.0 in
    let end : drop (length m - n) m ≡ 47 ∷ [] = drop_at_char 47 m (length m - n) (length m) h.2.1 (lit< tt) ∙ ap (λ (z : List ℕ). 47 ∷ z) (drop_all (length m) m (omega arith)) in
    let parts : m ≡ r ++ 47 ∷ [] = sym (take-append-drop (length m - n) m) ∙ (ap (λ (z : List ℕ). z ++ drop (length m - n) m) (sym h.3) ∙ ap (λ (z : List ℕ). r ++ z) end) in
    cut_suffixes ns s m h.1 ∙ (ap (λ (z : List ℕ). to_last (own_names z)) parts ∙ cut_slash r)

-- where none is left to cut, the text does not end in one
no_slash : (r : List ℕ) (o : Option ℕ) → FindsCharSuffix 47 r o → IfSome o (λ n. n ≡ 0) → (front : List ℕ) → r ≢ front ++ 47 ∷ []
no_slash r None found is_zero = λ front e. found front (e ∙ ap (λ (z : List ℕ). front ++ z) (sym (encode_ascii 47 (lit< tt))))
no_slash r (Some n) found is_zero = λ front e. let one : n ≡ 1 = found.0 in omega (arith, one, is_zero)

-- what is left without slashes at the end has the names up to the last one that is not empty
pub trimmed : (s r : List ℕ) → IsTrimEndMatches (FindsCharSuffix 47) s r → own_names r ≡ to_last (own_names s)
trimmed s r h = own_whole r (no_slash r h.1.0 h.1.1 h.1.2) ∙ sym (cut_suffixes h.0.0 s r h.0.1)

-- ## Their number

-- a path has at most a name more than bytes
names_count : (path : List ℕ) → length (names 47 path) ≤ length path + 1
names_count [] = omega arith
names_count (b ∷ t) = at (eqb b 47) (names_count t) where
  first : (ns : List (List ℕ)) → length (with_first b ns) ≤ length ns + 1
  first [] = omega arith
  first (n ∷ ns) = omega arith

  at : (x : Bool) → length (names 47 t) ≤ length t + 1 → length (cond x ([] ∷ names 47 t) (with_first b (names 47 t))) ≤ length (b ∷ t) + 1
  at true h = omega (arith, h)
  at false h = let more = first (names 47 t) in omega (arith, h, more)

-- so a path of fewer bytes has no more names than there are levels
pub few_names : (path : List ℕ) → length path < 5000 → false ≡ ltb 5000 (length (names 47 path))
few_names path h = let most = names_count path in sym (le-ltb 5000 (length (names 47 path)) (omega (arith, h, most)))

-- its parts between slashes are its names
pub split_names : (path : List ℕ) → slice_split (λ b. eqb b 47) path ≡ names 47 path
split_names [] = refl
split_names (b ∷ t) = at (eqb b 47) (split_names t) where
  first : (ns : List (List ℕ)) → onto_first b ns ≡ with_first b ns
  first [] = refl
  first (n ∷ ns) = refl

  at : (x : Bool) → slice_split (λ b. eqb b 47) t ≡ names 47 t
      → cond x ([] ∷ slice_split (λ b. eqb b 47) t) (onto_first b (slice_split (λ b. eqb b 47) t)) ≡ cond x ([] ∷ names 47 t) (with_first b (names 47 t))
  at true e = ap (λ (z : List (List ℕ)). [] ∷ z) e
  at false e = ap (onto_first b) e ∙ first (names 47 t)

-- there is one at an index below their number
pub name_at : (ns : List (List ℕ)) (i : ℕ) → is_some (slice_get ns i) ≡ ltb i (length ns)
name_at [] i = sym (le-ltb i 0 (omega arith))
name_at (n ∷ ns) zero = sym (lt-ltb 0 (length (n ∷ ns)) (omega arith))
name_at (n ∷ ns) (suc i) = name_at ns i ∙ both_ways (ltb i (length ns)) (ltb (suc i) (length (n ∷ ns)))
    (λ e. lt-ltb (suc i) (length (n ∷ ns)) (let less = ltb-true i (length ns) e in omega (arith, less)))
    (λ e. lt-ltb i (length ns) (let less = ltb-true (suc i) (length (n ∷ ns)) e in omega (arith, less)))

-- a value is there if what is read of it is
pub there_if_read : {A B : Type 0} (f : A → B) (o : Option A) → is_some o ≡ is_some (option_map f o)
there_if_read f None = refl
there_if_read f (Some x) = refl

-- that the empty path has none makes no difference
pub own_count : (path : List ℕ) → ltb 5000 (length (names 47 path)) ≡ ltb 5000 (length (own_names path))
own_count [] = refl
own_count (b ∷ t) = refl
