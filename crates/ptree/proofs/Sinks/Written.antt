-- What several writes append together.
use Rattle.std.specs.Prelude.{IsErrAnd}
use Rattle.std.proofs.Common.{◌≡◌, ℕ, zero, suc, ◌-◌, ◌≤◌, List, [], ◌∷◌, ◌++◌, Option, Some, None, Ok, Err, Result, ◌+◌, take, drop, length, sym, ◌∙◌, ap, subst, refl, append_assoc, arith, length-drop}
use Rattle.std.proofs.KnownBytes.{Appends-nil, Appends-trans}
use Rattle.std.proofs.Math.Seq.{take-append-add}
use Rattle.std.proofs.lemmas.List.{append-nil, take-append-drop, take_all}
use Rattle.std.proofs.lemmas.List.Folds.{concat-append}
use Rattle.std.specs.List.{concat}
use Rattle.std.specs.Io.KnownBytes.{Appends, Keeps}
use Rattle.ptree.specs.declared.sink.DrawError.{DrawError}
use Rattle.ptree.specs.declared.sink.DrawError.TheVariants.{Memory}
use Rattle.ptree.specs.Writing.{AppendsPart, AppendsEntries, IsWritten, AreWritten, put_faults}

-- if bytes are kept, nothing is appended
pub appends_kept : (a b : Option (List ℕ)) → Keeps a b → Appends a b []
appends_kept None b h = tt
appends_kept (Some xs) None h = absurd h
appends_kept (Some xs) (Some ys) h = h ∙ sym (append-nil xs)

-- what was written before, and the part that the last call wrote
pub part_then : (a b c : Option (List ℕ)) (x y : List ℕ) → Appends a b x → AppendsPart b c y → AppendsPart a c (x ++ y)
part_then a b c x y h k =
    (x ++ k.0, (k.1.0, ap (λ w. x ++ w) k.1.1 ∙ sym (append_assoc x k.0 k.1.0)), Appends-trans a b c x k.0 h k.2)

-- a part of a prefix is a part of the whole
pub part_more : (a b : Option (List ℕ)) (x y : List ℕ) → AppendsPart a b x → AppendsPart a b (x ++ y)
part_more a b x y k = (k.0, (k.1.0 ++ y, ap (λ w. w ++ y) k.1.1 ∙ append_assoc k.0 k.1.0 y), k.2)

-- a `put` that takes some bytes is no fault
pub put_faults-some : (E : Type 0) (n : ℕ) (bs : List ℕ) → (n ≡ 0 → ⊥) → put_faults {E = E} (Ok n) bs ≡ 0
put_faults-some E n [] h = refl
put_faults-some E zero (x ∷ xs) h = absurd (h refl)
put_faults-some E (suc n) (x ∷ xs) h = refl

-- after a short write the rest is written
pub write_step : (a b c : Option (List ℕ)) (prefix rest bytes : List ℕ) (n : ℕ) → n ≤ length rest → prefix ++ rest ≡ bytes → Appends a b prefix → Appends b c (take n rest)
    → ((prefix ++ take n rest) ++ take (length rest - n) (drop n rest) ≡ bytes) × Appends a c (prefix ++ take n rest)
write_step a b c prefix rest bytes n le e h k = (
  append_assoc prefix (take n rest) (take (length rest - n) (drop n rest))
      ∙ ap (λ w. prefix ++ (take n rest ++ w)) (take_all (length rest - n) (drop n rest) (simp length-drop (omega arith)))
      ∙ ap (λ w. prefix ++ w) (take-append-drop n rest) ∙ e,
  Appends-trans a b c prefix (take n rest) h k,
)

-- what was written before, and then the call whose result is returned
pub written_then : {A E : Type 0} (a b c : Option (List ℕ)) (r : Result A E) (x y : List ℕ) → Appends a b x → IsWritten b c r y → IsWritten a c r (x ++ y)
written_then a b c (Ok v) x y h k = Appends-trans a b c x y h k
written_then a b c (Err e) x y h k = part_then a b c x y h k

-- the first bytes of a text, and then the call that writes the rest of it
pub written_rest : {A E : Type 0} (a b c : Option (List ℕ)) (n : ℕ) (bytes : List ℕ) (r : Result A E) → Appends a b (take n bytes) → IsWritten b c r (take (length bytes - n) (drop n bytes)) → IsWritten a c r bytes
written_rest a b c n bytes r h k =
    let rest = take_all (length bytes - n) (drop n bytes) (simp length-drop (omega arith)) in
    subst (λ (z : List ℕ). IsWritten a c r z) (ap (λ w. take n bytes ++ w) rest ∙ take-append-drop n bytes) (written_then a b c r (take n bytes) (take (length bytes - n) (drop n bytes)) h k)

-- the exit of a `?` has written a prefix
pub written_err : {A E : Type 0} (Q : E → Type 0) (a b : Option (List ℕ)) (r : Result A E) (x : List ℕ) → IsErrAnd r Q → AppendsPart a b x → IsWritten a b r x
written_err Q a b (Ok v) x q k = absurd q
written_err Q a b (Err e) x q k = k

-- nothing yet is a prefix
pub entries_none : (a : Option (List ℕ)) (e : DrawError) (es : List (List ℕ)) → AppendsEntries a a e es
entries_none a e es = (([], (concat es, refl), Appends-nil a), λ m. (0, Appends-nil a))

-- two lists of entries appended one after the other are appended joined
pub appends_entries : (a b c : Option (List ℕ)) (xs ys : List (List ℕ)) → Appends a b (concat xs) → Appends b c (concat ys) → Appends a c (concat (xs ++ ys))
appends_entries a b c xs ys h k = subst (λ (z : List ℕ). Appends a c z) (sym (concat-append xs ys)) (Appends-trans a b c (concat xs) (concat ys) h k)

-- the entries so far, and a prefix of the others
pub entries_then : (a b c : Option (List ℕ)) (e : DrawError) (xs ys : List (List ℕ)) → Appends a b (concat xs) → AppendsEntries b c e ys → AppendsEntries a c e (xs ++ ys)
entries_then a b c e xs ys h k = (
  subst (λ (z : List ℕ). AppendsPart a c z) (sym (concat-append xs ys)) (part_then a b c (concat xs) (concat ys) h k.0),
  λ m.
      let w = k.1 m in (
        length xs + w.0,
        subst (λ (es : List (List ℕ)). Appends a c (concat es)) (sym (take-append-add xs ys w.0)) (appends_entries a b c xs (take w.0 ys) h w.1),
      ),
)

-- the first elements of a list are the first of a longer one
take_within : (n : ℕ) (xs ys : List (List ℕ)) → (m : ℕ) × (take m (xs ++ ys) ≡ take n xs)
take_within zero xs ys = (0, refl)
take_within (suc n) [] ys = (0, refl)
take_within (suc n) (x ∷ xs) ys = let r = take_within n xs ys in (suc r.0, ap (λ z. x ∷ z) r.1)

-- a prefix of some entries is a prefix of more
pub entries_more : (a b : Option (List ℕ)) (e : DrawError) (xs ys : List (List ℕ)) → AppendsEntries a b e xs → AppendsEntries a b e (xs ++ ys)
entries_more a b e xs ys k = (
  subst (λ (z : List ℕ). AppendsPart a b z) (sym (concat-append xs ys)) (part_more a b (concat xs) (concat ys) k.0),
  λ m.
      let w = k.1 m in
      let r = take_within w.0 xs ys in (r.0, subst (λ (es : List (List ℕ)). Appends a b (concat es)) (sym r.1) w.1),
)

-- the entries so far are a prefix if the others are still to come
pub entries_done : (a b : Option (List ℕ)) (e : DrawError) (xs ys all : List (List ℕ)) → xs ++ ys ≡ all → Appends a b (concat xs) → AppendsEntries a b e all
entries_done a b e xs ys all is h = subst (λ (es : List (List ℕ)). AppendsEntries a b e es) is (entries_then a b b e xs ys h (entries_none b e ys))

-- the entries so far, and then the call whose result is returned
pub entries_written : {A E : Type 0} (a b c : Option (List ℕ)) (r : Result A E) (e : DrawError) (xs ys : List (List ℕ)) → Appends a b (concat xs) → AreWritten b c r e ys → AreWritten a c r e (xs ++ ys)
entries_written a b c (Ok v) e xs ys h k = appends_entries a b c xs ys h k
entries_written a b c (Err f) e xs ys h k = entries_then a b c e xs ys h k

-- a part of the first entry is a prefix
pub entry_part : (a b : Option (List ℕ)) (e : DrawError) (x : List ℕ) (ys : List (List ℕ)) → AppendsPart a b x → (e ≡ Memory → b ≡ a) → AppendsEntries a b e (x ∷ ys)
entry_part a b e x ys h k = (part_more a b x (concat ys) h, λ m. (0, subst (λ (z : Option (List ℕ)). Appends a z []) (sym (k m)) (Appends-nil a)))

-- the first entry, and then the call whose result is returned
pub entry_then : {A E : Type 0} (a b c : Option (List ℕ)) (r : Result A E) (e : DrawError) (x : List ℕ) (ys : List (List ℕ)) → Appends a b x → AreWritten b c r e ys → AreWritten a c r e (x ∷ ys)
entry_then a b c r e x ys h k = entries_written a b c r e (x ∷ []) ys (subst (λ (z : List ℕ). Appends a b z) (sym (append-nil x)) h) k

-- the exit of a `?` has written a prefix of the entries
pub entries_err : {A E : Type 0} (Q : E → Type 0) (a b : Option (List ℕ)) (r : Result A E) (e : DrawError) (es : List (List ℕ)) → IsErrAnd r Q → AppendsEntries a b e es → AreWritten a b r e es
entries_err Q a b (Ok v) e es q k = absurd q
entries_err Q a b (Err f) e es q k = k
