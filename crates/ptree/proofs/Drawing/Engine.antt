-- The steps of the engine, over plain variables.
use Rattle.std.specs.Prelude.{IsErrAnd}
use Rattle.std.proofs.Common.{◌<◌, ◌≡◌, ℕ, zero, suc, ◌-◌, ◌≤◌, min, Bool, true, false, eqb, List, [], ◌∷◌, ◌++◌, Option, None, Result, Err, ◌+◌, length, sym, ◌∙◌, ap, subst, refl, append_assoc, map, take, drop, arith}
use Rattle.std.proofs.KnownBytes.{Appends-nil}
use Rattle.std.proofs.Math.Seq.{take-append_seam, drop-append_seam}
use Rattle.std.proofs.lemmas.Bool.Decides.{nat_tests}
use Rattle.std.proofs.lemmas.List.{append-nil, length-take, take-append-le, take_all}
use Rattle.std.specs.Io.KnownBytes.{Appends}
use Rattle.std.specs.List.{concat}
use Rattle.ptree.specs.declared.sink.DrawError.{DrawError}
use Rattle.ptree.specs.declared.sink.DrawError.TheVariants.{Memory}
use Rattle.ptree.specs.Drawing.{Look, with_inserted}
use Rattle.ptree.specs.Looks.{own_piece, below_piece, own_text, further_text, own_entry}
use Rattle.ptree.specs.Entries.{is_empty, shape_entry, with_below, kid_entries, entries_below, item_entries}
use Rattle.ptree.specs.Outline.{line}
use Rattle.ptree.specs.Pieces.{turning_piece, passing_piece}
use Rattle.ptree.specs.Shape.{Shape, kids}
use Rattle.ptree.specs.Style.{start_codes, end_codes, painted_text}
use Rattle.ptree.specs.Writing.{AppendsPart, AppendsEntries, AreWritten, result_faults, HasErrorCause}
use Rattle.ptree.proofs.Sinks.Written.{appends_entries, entries_none, entries_err, entries_then, entries_done, entries_more, entry_then}

-- nothing appended is a prefix
pub nothing_yet : (a : Option (List ℕ)) (x : List ℕ) → AppendsPart a a x
nothing_yet a x = ([], (x, refl), Appends-nil a)

-- the entries below an item, with some levels left, are those of its children with one level less
entries_down : (look : Look) (left : ℕ) (outer : List ℕ) (x : Shape) → (left ≡ 0 → ⊥) → entries_below look left outer x ≡ kid_entries look (entries_below look (left - 1)) outer (kids x)
entries_down look zero outer x h = absurd (h refl)
entries_down look (suc n) outer x h =
    let e : n ≡ suc n - 1 = omega arith in ap (λ k. kid_entries look (entries_below look k) outer (kids x)) e

-- an item is written: its own entry, and then the entries below it
pub item_written : {A E : Type 0} (look : Look) (left : ℕ) (outer : List ℕ) (last : Bool) (x : Shape) (a b c : Option (List ℕ)) (r : Result A E) (e : DrawError) → (left ≡ 0 → ⊥)
    → Appends a b (shape_entry look (outer ++ turning_piece look.pieces last) (outer ++ passing_piece look.pieces last) x)
    → AreWritten b c r e (kid_entries look (entries_below look (left - 1)) (outer ++ passing_piece look.pieces last) (kids x)) → AreWritten a c r e (item_entries look left outer last x)
item_written look left outer last x a b c r e h k w =
    let passing = outer ++ passing_piece look.pieces last in
    entry_then a b c r e _ (entries_below look left passing x) k
    (subst (λ (es : List (List ℕ)). AreWritten b c r e es) (sym (entries_down look left passing x h)) w)

-- its own entry is written, and then a call fails
pub item_alone : {A E : Type 0} (look : Look) (left : ℕ) (outer : List ℕ) (last : Bool) (x : Shape) (Q : E → Type 0) (a b : Option (List ℕ)) (r : Result A E) (e : DrawError) → (left ≡ 0 → ⊥)
    → Appends a b (shape_entry look (outer ++ turning_piece look.pieces last) (outer ++ passing_piece look.pieces last) x) → IsErrAnd r Q → AreWritten a b r e (item_entries look left outer last x)
item_alone look left outer last x Q a b r e h k q =
    let below = kid_entries look (entries_below look (left - 1)) (outer ++ passing_piece look.pieces last) (kids x) in
    item_written look left outer last x a b b r e h k (entries_err Q b b r e below q (entries_none b e below))

-- the entries of the first children were appended, and those of the rest are still to come
abbrev pub AreBegun : Look → (List ℕ → Shape → List (List ℕ)) → List ℕ → List Shape → List Shape → Option (List ℕ) → Option (List ℕ) → Type 0
AreBegun look below outer all rest a b = (done : List (List ℕ)) × (done ++ kid_entries look below outer rest ≡ kid_entries look below outer all) × Appends a b (concat done)

-- no child was drawn yet
pub begun_none : (look : Look) (below : List ℕ → Shape → List (List ℕ)) (outer : List ℕ) (all rest : List Shape) (a : Option (List ℕ)) → all ≡ rest → AreBegun look below outer all rest a a
begun_none look below outer all rest a is = ([], ap (kid_entries look below outer) (sym is), Appends-nil a)

-- what was appended so far is a prefix
pub begun_part : (look : Look) (below : List ℕ → Shape → List (List ℕ)) (outer : List ℕ) (all rest : List Shape) (a b : Option (List ℕ)) (e : DrawError)
    → AreBegun look below outer all rest a b → AppendsEntries a b e (kid_entries look below outer all)
begun_part look below outer all rest a b e h = entries_done a b e h.0 (kid_entries look below outer rest) (kid_entries look below outer all) h.1 h.2

-- the entries of one child, and of those after it
next_is : {C : Type 0} (shape : C → Shape) (look : Look) (below : List ℕ → Shape → List (List ℕ)) (outer : List ℕ) (rest others : List C) (x : C) (last : Bool) → rest ≡ x ∷ others → last ≡ eqb (length others) 0
    → with_below look below outer last (shape x) ++ kid_entries look below outer (map shape others) ≡ kid_entries look below outer (map shape rest)
next_is {C = C} shape look below outer rest others x last is end =
    ap (λ b. with_below look below outer b (shape x) ++ kid_entries look below outer (map shape others)) (end ∙ ends others) ∙ ap (λ cs. kid_entries look below outer (map shape cs)) (sym is)
  where
    ends : (cs : List C) → eqb (length cs) 0 ≡ is_empty (map shape cs)
    ends [] = refl
    ends (c ∷ cs) = grind (arith, nat_tests)

-- one child more
pub begun_then : {C : Type 0} (shape : C → Shape) (look : Look) (below : List ℕ → Shape → List (List ℕ)) (outer : List ℕ) (all : List Shape) (rest others : List C) (x : C) (last : Bool) (a b c : Option (List ℕ))
    → rest ≡ x ∷ others → last ≡ eqb (length others) 0 → AreBegun look below outer all (map shape rest) a b → Appends b c (concat (with_below look below outer last (shape x)))
    → AreBegun look below outer all (map shape others) a c
begun_then shape look below outer all rest others x last a b c is end h k =
    let item = with_below look below outer last (shape x) in (
      h.0 ++ item,
      append_assoc h.0 item (kid_entries look below outer (map shape others)) ∙ (ap (λ es. h.0 ++ es) (next_is shape look below outer rest others x last is end) ∙ h.1),
      appends_entries a b c h.0 item h.2 k,
    )

-- a child that was not drawn completely ends the list
pub begun_err : {C : Type 0} (shape : C → Shape) (look : Look) (below : List ℕ → Shape → List (List ℕ)) (outer : List ℕ) (all : List Shape) (rest others : List C) (x : C) (last : Bool) (a b c : Option (List ℕ)) (e : DrawError)
    → rest ≡ x ∷ others → last ≡ eqb (length others) 0 → AreBegun look below outer all (map shape rest) a b → AppendsEntries b c e (with_below look below outer last (shape x))
    → AppendsEntries a c e (kid_entries look below outer all)
begun_err shape look below outer all rest others x last a b c e is end h k =
    let item = with_below look below outer last (shape x) in
    let behind = kid_entries look below outer (map shape others) in
    subst (λ (es : List (List ℕ)). AppendsEntries a c e es) (ap (λ es. h.0 ++ es) (next_is shape look below outer rest others x last is end) ∙ h.1)
    (entries_then a b c e h.0 (item ++ behind) h.2 (entries_more b c e item behind k))

-- a list of length 0 is empty
empty_list : {C : Type 0} (ks : List C) (b : Bool) → b ≡ true → b ≡ eqb (length ks) 0 → ks ≡ []
empty_list [] b h k = refl
empty_list (x ∷ xs) b h k =
    let some : eqb (length (x ∷ xs)) 0 ≡ false = grind (arith, nat_tests) in absurd (cc)

-- an item whose list of children is empty has none
pub none_below : {D : Type 0} (x : Shape) (shape : D → Shape) (ks : List D) (empty : Bool) → empty ≡ true → empty ≡ eqb (length ks) 0 → map shape ks ≡ kids x → kids x ≡ []
none_below x shape ks empty e1 e2 ek = sym ek ∙ ap (map shape) (empty_list ks empty e1 e2)

-- so there is nothing below it
pub none_under : (look : Look) (left : ℕ) (outer : List ℕ) (x : Shape) → kids x ≡ [] → entries_below look left outer x ≡ []
none_under look zero outer x h = refl
none_under look (suc left) outer x h = ap (kid_entries look (entries_below look left) outer) h

-- an entry alone
pub alone_written : (a b : Option (List ℕ)) (e : List ℕ) (es : List (List ℕ)) → es ≡ [] → Appends a b e → Appends a b (concat (e ∷ es))
alone_written a b e es h w = subst (λ (z : List (List ℕ)). Appends a b (concat (e ∷ z))) (sym h) (subst (λ (y : List ℕ). Appends a b y) (sym (append-nil e)) w)

-- and it is written with its own entry
pub leaf_written : (look : Look) (left : ℕ) (outer : List ℕ) (last : Bool) (x : Shape) (a b : Option (List ℕ)) → kids x ≡ []
    → Appends a b (shape_entry look (outer ++ turning_piece look.pieces last) (outer ++ passing_piece look.pieces last) x) → Appends a b (concat (item_entries look left outer last x))
leaf_written look left outer last x a b h w = alone_written a b _ (entries_below look left (outer ++ passing_piece look.pieces last) x) (none_under look left (outer ++ passing_piece look.pieces last) x h) w

-- the entries of an item's children are those below it
pub all_below : {D A E : Type 0} (look : Look) (below : List ℕ → Shape → List (List ℕ)) (outer : List ℕ) (x : Shape) (a b : Option (List ℕ)) (r : Result A E) (e : DrawError) (shape : D → Shape) (ks : List D)
    → map shape ks ≡ kids x → AreWritten a b r e (kid_entries look below outer (map shape ks)) → AreWritten a b r e (kid_entries look below outer (kids x))
all_below look below outer x a b r e shape ks is w = subst (λ (xs : List Shape). AreWritten a b r e (kid_entries look below outer xs)) is w

-- the buffer holds an entry: its first bytes, a text with the end codes, and the own bytes, with
-- the same first bytes and another such text before each of their further lines
pub entry_held : (look : Look) (width : ℕ) (bytes outer : List ℕ) (last : Option Bool) (x : Shape)
    → bytes ≡ take width bytes ++ own_text look last → take width bytes ≡ start_codes look.branch ++ outer
    → (bytes ++ with_inserted (take width bytes ++ further_text look last) (x.own [] look.leaf)) ++ 10 ∷ [] ≡ own_entry look outer last x
entry_held look width bytes outer last x turned is =
    let own : List ℕ = own_piece look.pieces last in
    let below : List ℕ = below_piece look.pieces last in
    ap (λ t. t ++ with_inserted (take width bytes ++ further_text look last) (x.own [] look.leaf) ++ 10 ∷ []) (
    turned ∙ ap (λ l. l ++ (own ++ end_codes look.branch)) is
    ∙ around (start_codes look.branch) outer own (end_codes look.branch))
    ∙ ap (λ m. painted_text look.branch (outer ++ own) ++ with_inserted m (x.own [] look.leaf) ++ 10 ∷ [])
    (ap (λ l. l ++ further_text look last) is ∙ inside (start_codes look.branch) outer below look.marker (end_codes look.branch))
  where
    around : (a b c d : List ℕ) → (a ++ b) ++ (c ++ d) ≡ a ++ (b ++ c) ++ d
    around a b c d = simp append_assoc

    inside : (a b c d e : List ℕ) → (a ++ b) ++ (c ++ d ++ e) ≡ a ++ ((b ++ c) ++ d) ++ e
    inside a b c d e = simp append_assoc

-- a list whose first n elements make a list of length n has at least n
pub long_enough : (n : ℕ) (xs ys : List ℕ) → take n xs ≡ ys → n ≡ length ys → n ≤ length xs
long_enough n xs ys e h = let same : length (take n xs) ≡ min n (length xs) = length-take n xs in let all = ap length e in omega (arith, same, all, h)

-- bytes put after the first n leave those unchanged
pub take_again : (n : ℕ) (xs ys zs : List ℕ) → n ≤ length xs → zs ≡ take n xs ++ ys → take n zs ≡ take n xs
take_again n xs ys zs h e =
    let same : length (take n xs) ≡ min n (length xs) = length-take n xs in
    ap (take n) e ∙ take-append-le n (take n xs) ys (omega (arith, same)) ∙ take_all n (take n xs) (omega (arith, same))

-- an item's passing piece is put after the passing text of its parent
pub passes_on : (n : ℕ) (old mid new start outer piece : List ℕ) → mid ≡ old → new ≡ take n mid ++ piece → take n old ≡ start ++ outer → new ≡ start ++ (outer ++ piece)
passes_on n old mid new start outer piece k is e = is ∙ (ap (λ xs. take n xs ++ piece) k ∙ (ap (λ xs. xs ++ piece) e ∙ append_assoc start outer piece))

-- out of memory reports no fault
pub memory_is_no_fault : (a b : ℕ) (e : DrawError) → HasErrorCause a b e → e ≡ Memory → b ≡ a
memory_is_no_fault a b e h k =
    let none : a + 0 ≡ a = omega arith in h ∙ ap (λ (x : DrawError). a + result_faults {A = Unit {0}} (Err x)) k ∙ none

-- an error that is reported as out of memory is that
pub memory_is : (a b : DrawError) (r s : Result (Unit {0}) DrawError) → a ≡ b → r ≡ Err a → s ≡ Err Memory → r ≡ s → b ≡ Memory
memory_is a b r s e h k same = cc

-- a child with others after it is not the last
pub not_last : (n : ℕ) (last : Bool) → last ≡ eqb n 0 → 0 < n → last ≡ false
not_last n last e h = let some : eqb n 0 ≡ false = grind (arith, nat_tests) in e ∙ some

-- a regular turning piece was kept
pub still_turned : (n : ℕ) (xs turned kept : List ℕ) (text : Bool → List ℕ) (last : Bool) → turned ≡ take n xs ++ text last → last ≡ false → take n turned ≡ take n xs → kept ≡ turned → kept ≡ take n kept ++ text false
still_turned n xs turned kept text last e l t k =
    k ∙ e ∙ ap (λ b. take n xs ++ text b) l ∙ ap (λ ys. ys ++ text false) (sym (ap (take n) k ∙ t))

-- bytes put after a text are cut off again
pub cut_back : (n : ℕ) (xs ys zs kept again : List ℕ) → n ≡ length xs → zs ≡ xs ++ ys → kept ≡ zs → again ≡ take n kept → again ≡ xs
cut_back n xs ys zs kept again h e k a =
    a ∙ ap (take n) (k ∙ e) ∙ take-append-le n xs ys (omega arith) ∙ take_all n xs (omega arith)

-- own bytes after what the buffer held, with the text inserted after their line feeds
pub spread_is : (n width : ℕ) (old own held after further : List ℕ) → held ≡ old ++ own → n ≡ length old → width ≤ length old
    → after ≡ take n held ++ with_inserted (take width held ++ further) (drop n held) → after ≡ old ++ with_inserted (take width old ++ further) own
spread_is n width old own held after further e len low is =
    let outer : take n held ≡ old = ap (take n) e ∙ (ap (λ m. take m (old ++ own)) len ∙ take-append_seam old own) in
    let end : drop n held ≡ own = ap (drop n) e ∙ (ap (λ m. drop m (old ++ own)) len ∙ drop-append_seam old own) in
    let part : take width held ≡ take width old = ap (take width) e ∙ take-append-le width old own low in
    is ∙ (ap (λ z. z ++ with_inserted (take width held ++ further) (drop n held)) outer
    ∙ (ap (λ z. old ++ with_inserted (z ++ further) (drop n held)) part ∙ ap (λ z. old ++ with_inserted (take width old ++ further) z) end))

-- the gathered bytes are an entry: own bytes after what the buffer held, continued, and a line feed
pub entry_gathered : (look : Look) (width start : ℕ) (old held spread line outer : List ℕ) (last : Option Bool) (x : Shape)
    → old ≡ take width old ++ own_text look last → take width old ≡ start_codes look.branch ++ outer
    → held ≡ old ++ x.own [] look.leaf → start ≡ length old → width ≤ length old → spread ≡ take start held ++ with_inserted (take width held ++ further_text look last) (drop start held) → line ≡ spread ++ 10 ∷ []
    → line ≡ own_entry look outer last x
entry_gathered look width start old held spread line outer last x turned is own len low e f =
    f ∙ (ap (λ z. z ++ 10 ∷ []) (spread_is start width old _ held spread (further_text look last) own len low e) ∙ entry_held look width old outer last x turned is)

-- the first bytes are unchanged when bytes are put after them
pub start_kept : (width : ℕ) (old bytes end : List ℕ) → width ≡ length old → bytes ≡ old ++ end → take width bytes ≡ old
start_kept width old bytes end len is = ap (take width) is ∙ (ap (λ n. take n (old ++ end)) len ∙ take-append_seam old end)

-- so before a root's own bytes the buffer holds the branch's codes, and no passing text
pub root_held : (look : Look) (width : ℕ) (old bytes end : List ℕ) → width ≡ length old → bytes ≡ old ++ end → old ≡ start_codes look.branch → take width bytes ≡ start_codes look.branch ++ []
root_held look width old bytes end len is start = start_kept width old bytes end len is ∙ start ∙ sym (append-nil (start_codes look.branch))

-- the buffer before a root's own bytes: the branch's codes, with nothing between them
pub root_turned : (look : Look) (width : ℕ) (old bytes end : List ℕ) → width ≡ length old → bytes ≡ old ++ end → end ≡ own_text look None → bytes ≡ take width bytes ++ own_text look None
root_turned look width old bytes end len is e = is ∙ (ap (λ z. z ++ end) (sym (start_kept width old bytes end len is)) ∙ ap (λ z. take width bytes ++ z) e)
