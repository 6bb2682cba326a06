use Rattle.trees.proofs.Common.{◌≡◌, ◌∙◌, ℕ, ◌+◌, ◌≤◌, Bool, true, false, cond, List, [], ◌∷◌, ◌++◌, codes, refl, sym, ap, subst, is_ok, arith, rules, Bor, bytes_eq, false≢true, or_parts}
use Rattle.std.proofs.lemmas.List.Sums.{sum_by-cons, sum_by_push}
use Rattle.std.specs.List.{count_by, list_any}
use Rattle.trees.proofs.words.Words.push_file.Goals as goal
use Rattle.trees.proofs.words.Words.push_file.Goals.{else-eq-via-then-eq+else-contains, else-eq-via-else-eq}

module _ (p : Bor (List ℕ) → Bool) where
  -- if none passes, none is counted
  none_counted : (xs : List (Bor (List ℕ))) → list_any p xs ≡ false → count_by p xs ≡ 0
  none_counted [] h = refl
  none_counted (x ∷ xs) h =
      let none = or_parts (p x) (list_any p xs) h in
      let rest = none_counted xs none.1 in
      sum_by-cons (λ y. cond (p y) 1 0) x xs ∙ ap (λ (b : Bool). cond b 1 0 + count_by p xs) none.0 ∙ omega arith

  -- at most one passes if one more comes that passes only if none does
  still_once : (xs : List (Bor (List ℕ))) (x : Bor (List ℕ)) → count_by p xs ≤ 1 → (p x ≡ true → list_any p xs ≡ false) → count_by p (xs ++ x ∷ []) ≤ 1
  still_once xs x once alone = at (p x) refl where
    more : (b : Bool) → p x ≡ b → count_by p (xs ++ x ∷ []) ≡ count_by p xs + cond b 1 0
    more b e = sum_by_push (λ y. cond (p y) 1 0) xs x ∙ ap (λ (c : Bool). count_by p xs + cond c 1 0) e

    at : (b : Bool) → p x ≡ b → count_by p (xs ++ x ∷ []) ≤ 1
    at true e = let none = none_counted xs (alone e) in let one = more true e in omega arith
    at false e = let same = more false e in omega arith

  -- and if it doesn't come
  once_if : (old new : List (Bor (List ℕ))) (x : Bor (List ℕ)) (comes : Bool) → new ≡ cond comes (old ++ x ∷ []) old → count_by p old ≤ 1 → (p x ≡ true → list_any p old ≡ false) → count_by p new ≤ 1
  once_if old new x true is once alone = subst (λ (xs : List (Bor (List ℕ))). count_by p xs ≤ 1) (sym is) (still_once old x once alone)
  once_if old new x false is once alone = subst (λ (xs : List (Bor (List ℕ))). count_by p xs ≤ 1) (sym is) once

pub invariant_of-self : goal.invariant_of-self
invariant_of-self c =
    let is : Bor (List ℕ) → Bool = λ path. bytes_eq path.now (codes "-") in
    let files = c.args.self.now.files.items in
    let word = c.args.word in
    let alone : is word ≡ true → list_any is files ≡ false = elim c.else-eq.branch [
      | else-eq-via-then-eq+else-contains w ↦ (λ _. search rules)
      | else-eq-via-else-eq w ↦ (λ e. let other : is word ≡ false = search rules in absurd (false≢true (sym other ∙ e)))
    ] in record { once = once_if is files c.push.new.self.items word (is_ok c.push.result) c.push.ensures.items c.args.self.now.once alone }
