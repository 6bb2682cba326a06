-- Reading items one by one.
use Rattle.std.proofs.Common.{◌≡◌, ◌∙◌, ℕ, List, [], ◌∷◌, ◌++◌, length, append-nil, Option, Some, None, sym, ap, subst}
use Rattle.std.specs.Borrow.{Bor}
use Rattle.std.specs.Prelude.{MatchOption}
use Rattle.ptree.specs.declared.read.items.ItemReader.{ItemReader}
use Rattle.ptree.specs.declared.read.path.Path.{Path}
use Rattle.ptree.specs.declared.read.scan.Place.{Place}
use Rattle.ptree.specs.Drawing.{Look}
use Rattle.ptree.specs.DrawnForm.{IsDrawnForm, IsDrawnOutline}
use Rattle.ptree.specs.ItemReader.{AreFirst, HasRead, IsNextLevel}
use Rattle.ptree.specs.Looks.{look_of}
use Rattle.ptree.specs.Outline.{Line, line, outline}
use Rattle.ptree.specs.Readable.{IsReadableWith}
use Rattle.ptree.specs.Scanned.{IsScanned}
use Rattle.ptree.specs.Tree.{Tree}
use Rattle.ptree.proofs.Reading.NextLines.{form_outline}
use Rattle.ptree.proofs.Reading.SpelledForms.{same_drawn_form}

-- where a reader of this text is, in this look and down to this depth
abbrev IsAt : (reader : ItemReader) (done : List Line) → Look → ℕ → List ℕ → Type 0
IsAt reader done look depth x =
    MatchOption reader.next (IsDrawnOutline look depth x done) (λ own. IsScanned look depth x reader.place.rest.now reader.place.lines done (length reader.path.flags.items) own.now reader.path.flags.items)

-- what holds by the reader's own names holds of what it reads
pub by_names : (P : Look → ℕ → List ℕ → Type 0) (look : Look) (depth : ℕ) (x : List ℕ) (reader : ItemReader) (done : List Line) → HasRead look depth x reader done → P (look_of reader.frame.look) reader.frame.depth reader.text.now → P look depth x
by_names P look depth x reader done h p = subst (λ y. P look depth y) h.text_is (subst (λ d. P look d reader.text.now) h.depth_is (subst (λ k. P k reader.frame.depth reader.text.now) h.look_is p))

-- and the other way round
pub by_reader : (P : Look → ℕ → List ℕ → Type 0) (look : Look) (depth : ℕ) (x : List ℕ) (reader : ItemReader) (done : List Line) → HasRead look depth x reader done → P look depth x → P (look_of reader.frame.look) reader.frame.depth reader.text.now
by_reader P look depth x reader done h p = subst (λ k. P k reader.frame.depth reader.text.now) (sym h.look_is) (subst (λ d. P look d reader.text.now) (sym h.depth_is) (subst (λ y. P look depth y) (sym h.text_is) p))

-- before an item its own line was read
pub before_item : (look : Look) (depth : ℕ) (x : List ℕ) (reader : ItemReader) (done : List Line) (own : Bor (List ℕ)) → HasRead look depth x reader done → reader.next ≡ Some own
    → IsScanned (look_of reader.frame.look) reader.frame.depth reader.text.now reader.place.rest.now reader.place.lines done (length reader.path.flags.items) own.now reader.path.flags.items
before_item look depth x reader done own h is = subst (λ o. MatchOption o (IsDrawnOutline (look_of reader.frame.look) reader.frame.depth reader.text.now done) (λ own. IsScanned (look_of reader.frame.look) reader.frame.depth reader.text.now reader.place.rest.now reader.place.lines done (length reader.path.flags.items) own.now reader.path.flags.items)) is (by_reader (IsAt reader done) look depth x reader done h h.stands)

-- the level of the next item of a drawing
pub level_is : (look : Look) (depth : ℕ) (x : List ℕ) (reader : ItemReader) (done : List Line) (t : Tree) (own : Bor (List ℕ)) (n : ℕ) → HasRead look depth x reader done → IsDrawnForm look depth x t → reader.next ≡ Some own → n ≡ length reader.path.flags.items → IsNextLevel t done (Some n)
level_is look depth x reader done t own n h form is level =
    let s : IsScanned look depth x reader.place.rest.now reader.place.lines done (length reader.path.flags.items) own.now reader.path.flags.items = rw is at h.stands in
    let (drawn, valid) = form_outline look depth x t form in
    let (below, text, outline_is, allowed, follows) = s.reached.to (outline t) reader.place.rest.now valid (sym s.text_is ∙ drawn) in
    (text, below, outline_is ∙ ap (λ m. done ++ line m text ∷ below) (sym level))

-- behind the last item of a drawing is none
pub no_level_is : (look : Look) (depth : ℕ) (x : List ℕ) (reader : ItemReader) (done : List Line) (t : Tree) → HasRead look depth x reader done → IsDrawnForm look depth x t → reader.next ≡ None → IsNextLevel t done None
no_level_is look depth x reader done t h form is =
    let end : IsDrawnOutline look depth x done = rw is at h.stands in
    let (u, lines, also) = end in
    ap outline (same_drawn_form look depth h.readable x t u form also) ∙ lines

-- the items that were read of a drawing are the first ones of its tree
pub first_items : (look : Look) (depth : ℕ) (x : List ℕ) (done : List Line) (place : Place) (path : Path) (next : Option (Bor (List ℕ))) → IsReadableWith look.pieces look.marker
    → MatchOption next (IsDrawnOutline look depth x done) (λ own. IsScanned look depth x place.rest.now place.lines done (length path.flags.items) own.now path.flags.items) → AreFirst look depth x done
first_items look depth x done place path None readable (u, lines, also) t form = ([], ap outline (same_drawn_form look depth readable x t u form also) ∙ lines ∙ sym (append-nil done))
first_items look depth x done place path (Some own) readable s t form =
    let (drawn, valid) = form_outline look depth x t form in
    let (below, text, is, allowed, follows) = s.reached.to (outline t) place.rest.now valid (sym s.text_is ∙ drawn) in
    (line (length path.flags.items) text ∷ below, is)
