-- Where a writer of items stands, from item to item.
use Rattle.std.proofs.Common.{◌≡◌, ℕ, ◌+◌, ◌-◌, ◌<◌, ◌≤◌, inl, inr, Bool, true, false, Some, List, [], ◌∷◌, ◌++◌, length, take, drop, get_or, set, refl, sym, ap, ◌∙◌, subst, append_assoc, take-append-drop, take-take, length-take-le, arith}
use Rattle.std.proofs.Math.Seq.{take-append_seam}
use Rattle.std.proofs.lemmas.Bool.{cases_lt, false≢true}
use Rattle.std.proofs.lemmas.List.{append-nil, length-append, length-map, get_or_append_left, get_or_at, get_or_default, get_or-take, map-append, set_at, take_all, take-append-le, take_more, take-map}
use Rattle.ptree.specs.Drawing.{Look}
use Rattle.ptree.specs.Looks.{own_text}
use Rattle.ptree.specs.Pieces.{Pieces, passing_piece, passing_all}
use Rattle.ptree.specs.Style.{start_codes}
use Rattle.ptree.specs.Rungs.{flags_of, above, front_below, Begins, no_rung, AreWidths, StandsAt}
use Rattle.ptree.specs.declared.output.writer.Rung.{Rung}
use Rattle.ptree.proofs.Drawing.Engine.{long_enough}
use Rattle.ptree.proofs.Reading.Paths.{passing_all-push}

-- a text that begins with two parts begins with the first one
begins_part : (a b text : List ℕ) → Begins (a ++ b) text → Begins a text
begins_part a b text is =
    let short : length a ≤ length (a ++ b) = omega (arith, length-append a b) in
    sym (take-take (length a) (length (a ++ b)) text short) ∙ (ap (take (length a)) is ∙ take-append_seam a b)

-- two parts begin with the first one
begins_parts : (a b text : List ℕ) → text ≡ a ++ b → Begins a text
begins_parts a b text is = ap (take (length a)) is ∙ take-append_seam a b

-- a text begins with itself
begins_same : (a text : List ℕ) → text ≡ a → Begins a text
begins_same a text is = begins_parts a [] text (is ∙ sym (append-nil a))

-- what a text begins with is no longer than the text
pub begins_short : (a text : List ℕ) → Begins a text → length a ≤ length text
begins_short a text is = long_enough (length a) text a is refl

-- the passing pieces of two parts of flags
passing_all-append : (p : Pieces) (a b : List Bool) → passing_all p (a ++ b) ≡ passing_all p a ++ passing_all p b
passing_all-append p [] b = refl
passing_all-append p (x ∷ a) b = ap (λ z. passing_piece p x ++ z) (passing_all-append p a b) ∙ sym (append_assoc (passing_piece p x) (passing_all p a) (passing_all p b))

-- the front below one item more
pub front_push : (look : Look) (flags : List Bool) (b : Bool) → front_below look (flags ++ b ∷ []) ≡ front_below look flags ++ passing_piece look.pieces b
front_push look flags b =
    ap (λ z. start_codes look.branch ++ z) (passing_all-push look.pieces flags b) ∙ sym (append_assoc (start_codes look.branch) (passing_all look.pieces flags) (passing_piece look.pieces b))

-- a text that begins with the front below items begins with the front below the first of them
front_first : (look : Look) (j m : ℕ) (flags : List Bool) (text : List ℕ) → j ≤ m → Begins (front_below look (take m flags)) text → Begins (front_below look (take j flags)) text
front_first look j m flags text h is =
    let few : List Bool = take j flags in
    let more : List Bool = drop j (take m flags) in
    let parts : take m flags ≡ few ++ more = sym (take-append-drop j (take m flags)) ∙ ap (λ z. z ++ more) (take-take j m flags h) in
    let joined : front_below look (take m flags) ≡ front_below look few ++ passing_all look.pieces more =
    ap (front_below look) parts ∙ (ap (λ z. start_codes look.branch ++ z) (passing_all-append look.pieces few more) ∙ sym (append_assoc (start_codes look.branch) (passing_all look.pieces few) (passing_all look.pieces more))) in
    begins_part (front_below look few) (passing_all look.pieces more) text (subst (λ (f : List ℕ). Begins f text) joined is)

-- one flag more has those before it above it
pub above_push : (flags : List Bool) (b : Bool) → above (flags ++ b ∷ []) ≡ flags
above_push flags b =
    let long : length (flags ++ b ∷ []) - 1 ≡ length flags = omega (arith, length-append flags (b ∷ [])) in
    ap (λ n. take n (flags ++ b ∷ [])) long ∙ take-append_seam flags (b ∷ [])

-- the flags of the first items and of one more
pub flags_put : (rungs : List Rung) (k : ℕ) (r : Rung) → flags_of (take k rungs ++ r ∷ []) ≡ take k (flags_of rungs) ++ r.is_last ∷ []
flags_put rungs k r = map-append (λ (x : Rung). x.is_last) (take k rungs) (r ∷ []) ∙ ap (λ z. z ++ r.is_last ∷ []) (sym (take-map (λ (x : Rung). x.is_last) k rungs))

-- they have their widths
widths_put : (look : Look) (rungs : List Rung) (k : ℕ) (r : Rung) → k ≤ length rungs → AreWidths look rungs → r.width ≡ length (front_below look (take k (flags_of rungs))) → AreWidths look (take k rungs ++ r ∷ [])
widths_put look rungs k r h are is j low =
    let long : length (take k rungs) ≡ k = length-take-le k rungs h in
    let flags : List Bool = take k (flags_of rungs) in
    let flags_long : length flags ≡ k = length-take-le k (flags_of rungs) (omega (arith, h, length-map rungs (λ (x : Rung). x.is_last))) in
    let all : List Bool = flags ++ r.is_last ∷ [] in
    let same : flags_of (take k rungs ++ r ∷ []) ≡ all = flags_put rungs k r in
    let first : j ≤ k → take j (flags_of (take k rungs ++ r ∷ [])) ≡ take j (flags_of rungs) =
    λ few. ap (take j) same ∙ (take-append-le j flags (r.is_last ∷ []) (omega (arith, few, flags_long)) ∙ take-take j k (flags_of rungs) few) in
    elim (cases_lt j k) [
      | inl before ↦
          ap (λ (x : Rung). x.width) (get_or_append_left (take k rungs) (r ∷ []) no_rung j (omega (arith, before, long)) ∙ get_or-take k rungs j no_rung before)
          ∙ (are j (omega (arith, before, h)) ∙ ap (λ f. length (front_below look f)) (sym (first (omega (arith, before)))))
      | inr behind ↦
          let here : j ≡ k = omega (arith, behind, low, length-append (take k rungs) (r ∷ []), long) in
          ap (λ n. (get_or (take k rungs ++ r ∷ []) n no_rung).width) here
          ∙ (ap (λ (x : Rung). x.width) (get_or_at (take k rungs) r [] no_rung k long)
          ∙ (is ∙ ap (λ f. length (front_below look f)) (ap (λ n. take n (flags_of rungs)) (sym here) ∙ sym (first (omega (arith, here))))))
    ]

-- the writer stands at the first items and one more
pub stands_put : (look : Look) (old new : List ℕ) (turned turned' : Bool) (root : ℕ) (rungs : List Rung) (k : ℕ) (r : Rung) → k ≤ length rungs → StandsAt look old turned root rungs
    → r.width ≡ length (front_below look (take k (flags_of rungs))) → Begins (front_below look (take k (flags_of rungs))) new
    → (turned' ≡ true → Begins (front_below look (take k (flags_of rungs)) ++ own_text look (Some false)) new) → StandsAt look new turned' root (take k rungs ++ r ∷ [])
stands_put look old new turned turned' root rungs k r h at wide front regular =
    let same : above (flags_of (take k rungs ++ r ∷ [])) ≡ take k (flags_of rungs) = ap above (flags_put rungs k r) ∙ above_push (take k (flags_of rungs)) r.is_last in
    record {
      root_is = at.root_is;
      widths = widths_put look rungs k r h at.widths wide;
      front = subst (λ (f : List Bool). Begins (front_below look f) new) (sym same) front;
      regular = λ is. subst (λ (f : List Bool). Begins (front_below look f ++ own_text look (Some false)) new) (sym same) (regular is);
    }

-- the item at a place of the path
pub stands_width : (look : Look) (buffer : List ℕ) (turned : Bool) (root : ℕ) (rungs : List Rung) (k : ℕ) → StandsAt look buffer turned root rungs → k < length rungs
    → Begins (front_below look (take k (flags_of rungs))) buffer
stands_width look buffer turned root rungs k at h =
    front_first look k (length (flags_of rungs) - 1) (flags_of rungs) buffer (omega (arith, h, length-map rungs (λ (x : Rung). x.is_last))) at.front

-- the front below no items
pub stands_root : (look : Look) (buffer : List ℕ) (turned : Bool) (root : ℕ) (rungs : List Rung) → StandsAt look buffer turned root rungs → (root ≡ length (front_below look [])) × Begins (front_below look []) buffer
stands_root look buffer turned root rungs at =
    (at.root_is ∙ ap length (sym (append-nil (start_codes look.branch))), front_first look 0 (length (flags_of rungs) - 1) (flags_of rungs) buffer (omega arith) at.front)

-- the buffer was cut before a root, and more was put there
pub root_cut : (look : Look) (old cut more new : List ℕ) (turned : Bool) (root : ℕ) (rungs : List Rung) → StandsAt look old turned root rungs → cut ≡ take root old → new ≡ cut ++ more → new ≡ front_below look [] ++ more
root_cut look old cut more new turned root rungs at is e =
    let base = stands_root look old turned root rungs at in
    e ∙ ap (λ z. z ++ more) (is ∙ (ap (λ n. take n old) base.0 ∙ base.1))

-- the writer stands at no item
pub stands_begun : (look : Look) (old new more : List ℕ) (turned turned' : Bool) (root : ℕ) (rungs none : List Rung) → StandsAt look old turned root rungs → none ≡ [] → turned' ≡ false → new ≡ front_below look [] ++ more
    → StandsAt look new turned' root none
stands_begun look old new more turned turned' root rungs none at nothing not is =
    subst (λ (rs : List Rung). StandsAt look new turned' root rs) (sym nothing)
    (record {
      root_is = at.root_is;
      widths = λ k low. absurd (omega (arith, low));
      front = begins_parts (front_below look []) more new is;
      regular = λ held. absurd (false≢true (sym not ∙ held));
    })

-- the first items and the next one are the first items of one more
first_more : (rungs : List Rung) (level : ℕ) → 0 < level → level ≤ length rungs → take level rungs ≡ take (level - 1) rungs ++ get_or rungs (level - 1) no_rung ∷ []
first_more rungs level some within =
    let one : level ≡ level - 1 + 1 = omega (arith, some) in
    ap (λ n. take n rungs) one ∙ take_more rungs (level - 1) no_rung (omega (arith, some, within))

-- behind the last item's passing piece is the front below it
pub front_passed : (look : Look) (old new : List ℕ) (turned : Bool) (root : ℕ) (rungs : List Rung) (r : Rung) → StandsAt look old turned root rungs → 0 < length rungs → r ≡ get_or rungs (length rungs - 1) no_rung
    → new ≡ take r.width old ++ passing_piece look.pieces r.is_last → new ≡ front_below look (flags_of rungs)
front_passed look old new turned root rungs r at some is e =
    let k : ℕ = length rungs - 1 in
    let low : k < length rungs = omega (arith, some) in
    let front : List ℕ = front_below look (take k (flags_of rungs)) in
    let wide : r.width ≡ length front = ap (λ (x : Rung). x.width) is ∙ at.widths k low in
    let whole : rungs ≡ take k rungs ++ r ∷ [] =
    sym (take_all (length rungs) rungs (omega arith)) ∙ (first_more rungs (length rungs) some (omega arith) ∙ ap (λ x. take k rungs ++ x ∷ []) (sym is)) in
    e ∙ (ap (λ z. z ++ passing_piece look.pieces r.is_last) (ap (λ n. take n old) wide ∙ stands_width look old turned root rungs k at low)
    ∙ (sym (front_push look (take k (flags_of rungs)) r.is_last) ∙ ap (front_below look) (sym (ap flags_of whole ∙ flags_put rungs k r))))

-- an item in the place of the last one of the first items
pub put_last : (rungs mid : List Rung) (level : ℕ) (r : Rung) → 0 < level → level ≤ length rungs → mid ≡ take level rungs → set mid (level - 1) r ≡ take (level - 1) rungs ++ r ∷ []
put_last rungs mid level r some within is =
    ap (λ xs. set xs (level - 1) r) (is ∙ first_more rungs level some within)
    ∙ set_at (take (level - 1) rungs) (get_or rungs (level - 1) no_rung) [] r (level - 1) (length-take-le (level - 1) rungs (omega (arith, within)))

-- the writer stands at an item in the place of one of the path
pub stands_up : (look : Look) (old new : List ℕ) (turned turned' : Bool) (root : ℕ) (rungs mid : List Rung) (level width : ℕ) (b : Bool) → 0 < level → level ≤ length rungs → StandsAt look old turned root rungs
    → mid ≡ take level rungs → new ≡ old → (turned' ≡ true → (turned ≡ true) × (length rungs ≤ level)) → width ≡ length (front_below look (take (level - 1) (flags_of rungs)))
    → StandsAt look new turned' root (set mid (level - 1) (record { width = width; is_last = b }))
stands_up look old new turned turned' root rungs mid level width b some within at first same held wide =
    let front : List ℕ = front_below look (take (level - 1) (flags_of rungs)) in
    subst (λ (rs : List Rung). StandsAt look new turned' root rs) (sym (put_last rungs mid level (record { width = width; is_last = b }) some within first))
    (stands_put look old new turned turned' root rungs (level - 1) (record { width = width; is_last = b }) (omega (arith, within)) at wide
    (subst (λ (z : List ℕ). Begins front z) (sym same) (stands_width look old turned root rungs (level - 1) at (omega (arith, some, within))))
    (λ is.
    let end : length (flags_of rungs) - 1 ≡ level - 1 = omega (arith, within, (held is).1, length-map rungs (λ (x : Rung). x.is_last)) in
    subst (λ (z : List ℕ). Begins (front ++ own_text look (Some false)) z) (sym same)
    (subst (λ n. Begins (front_below look (take n (flags_of rungs)) ++ own_text look (Some false)) old) end (at.regular (held is).0))))

-- its flags
pub flags_up : (rungs mid : List Rung) (level width : ℕ) (b : Bool) → 0 < level → level ≤ length rungs → mid ≡ take level rungs
    → flags_of (set mid (level - 1) (record { width = width; is_last = b })) ≡ take (level - 1) (flags_of rungs) ++ b ∷ []
flags_up rungs mid level width b some within first =
    ap flags_of (put_last rungs mid level (record { width = width; is_last = b }) some within first) ∙ flags_put rungs (level - 1) (record { width = width; is_last = b })

-- its width
pub width_up : (look : Look) (rungs mid : List Rung) (level : ℕ) (r : Rung) → 0 < level → level ≤ length rungs → AreWidths look rungs → mid ≡ take level rungs → r ≡ get_or mid (level - 1) r
    → r.width ≡ length (front_below look (take (level - 1) (flags_of rungs)))
width_up look rungs mid level r some within are first is =
    let low : level - 1 < length rungs = omega (arith, some, within) in
    ap (λ (x : Rung). x.width) (is ∙ (ap (λ xs. get_or xs (level - 1) r) first ∙ (get_or-take level rungs (level - 1) r (omega (arith, some)) ∙ get_or_default rungs (level - 1) r no_rung low)))
    ∙ are (level - 1) low
