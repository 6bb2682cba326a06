-- Items, gathered as they are read.
use Rattle.std.proofs.Common.{◌≡◌, ℕ, ◌+◌, ◌≤◌, List, [], ◌∷◌, ◌++◌, Option, Some, None, Ok, length, append-nil, append_assoc, length-append, ap, sym, ◌∙◌, subst, arith}
use Rattle.std.proofs.lemmas.List.{flat_map_more}
use Rattle.std.specs.Borrow.{Bor}
use Rattle.std.specs.Prelude.{MatchOption}
use Rattle.ptree.specs.declared.read.items.ItemReader.{ItemReader}
use Rattle.ptree.specs.declared.read.items.ReadItem.{ReadItem}
use Rattle.ptree.specs.Drawing.{Look}
use Rattle.ptree.specs.DrawnForm.{IsDrawnOutline}
use Rattle.ptree.specs.ItemReader.{HasRead, IsNext}
use Rattle.ptree.specs.Outline.{Line, line}
use Rattle.ptree.specs.Reached.{IsOutlineWithin}
use Rattle.ptree.specs.ReadItems.{item_line, read_text_of}
use Rattle.ptree.specs.Scanned.{IsScanned}
use Rattle.ptree.proofs.Reading.NextLines.{form_outline}
use Rattle.ptree.proofs.Reading.SpelledForms.{low_split}
use Rattle.ptree_c.specs.Items.{items_from, joined_texts}
use Rattle.ptree_c.specs.declared.items.Item.{Item}

-- the items and texts are those of the lines that a reader has returned
abbrev pub AreRead : Look → ℕ → List ℕ → ItemReader → List Item → List ℕ → Type 0
AreRead look depth x reader items texts = (done : List Line) × HasRead look depth x reader done × (items ≡ items_from 0 done) × (texts ≡ joined_texts done)

-- an item of an outline is within its depth
low_item : (depth : ℕ) (done : List Line) (l : Line) (more : List Line) → IsOutlineWithin depth (done ++ l ∷ more) → l.level ≤ depth
low_item depth [] l more valid = omega (arith, valid.0)
low_item depth (k ∷ done) l more valid = (low_split depth done (l ∷ more) valid.2).1.0

-- so is an item that was read
item_within : (look : Look) (depth : ℕ) (x : List ℕ) (reader : ItemReader) (done : List Line) (l : Line) (next : Option (Bor (List ℕ)))
    → MatchOption next (IsDrawnOutline look depth x (done ++ l ∷ [])) (λ own. IsScanned look depth x reader.place.rest.now reader.place.lines (done ++ l ∷ []) (length reader.path.flags.items) own.now reader.path.flags.items)
    → l.level ≤ depth
item_within look depth x reader done l None (t, lines, form) = low_item depth done l [] (subst (IsOutlineWithin depth) lines (form_outline look depth x t form).1)
item_within look depth x reader done l (Some own) s =
    let level : ℕ = length reader.path.flags.items in
    low_item depth done l (line level [] ∷ []) (subst (IsOutlineWithin depth) (append_assoc done (l ∷ []) (line level [] ∷ [])) (s.reached.valid []))

-- an item behind others ends where the texts of all end
items_more : (n : ℕ) (done : List Line) (l : Line) → items_from n (done ++ l ∷ []) ≡ items_from n done ++ record { end = n + length (joined_texts (done ++ l ∷ [])); level = l.level } ∷ []
items_more n [] l = ap (λ (z : List ℕ). record { end = n + length z; level = l.level } ∷ []) (sym (append-nil l.text))
items_more n (k ∷ done) l =
    let same : (n + length k.text) + length (joined_texts (done ++ l ∷ [])) ≡ n + length (k.text ++ joined_texts (done ++ l ∷ [])) = omega (arith, length-append k.text (joined_texts (done ++ l ∷ []))) in
    ap (λ z. record { end = n + length k.text; level = k.level } ∷ z) (items_more (n + length k.text) done l ∙ ap (λ m. items_from (n + length k.text) done ++ record { end = m; level = l.level } ∷ []) same)

-- the next item is gathered, which is within the depth
pub one_read : {look : Look} {depth : ℕ} {x : List ℕ} {old new : ItemReader} {found : Option ReadItem} {items : List Item} {texts : List ℕ} (item : ReadItem) (more : List Item) (longer : List ℕ) (end : ℕ)
    → AreRead look depth x old items texts → IsNext old new (Ok found) → found ≡ Some item → longer ≡ texts ++ read_text_of item.text → end ≡ length longer
    → more ≡ items ++ record { end = end; level = item.level } ∷ [] → (item.level ≤ depth) × AreRead look depth x new more longer
one_read {look} {depth} {x} {old} {new} {found} {items} {texts} item more longer end (done, was, are, joined) next is long ends grown =
    let l : Line = item_line item in
    let now : HasRead look depth x new (done ++ l ∷ []) = rw is at next look depth x done was in
    let read : longer ≡ joined_texts (done ++ l ∷ []) = long ∙ (ap (λ z. z ++ l.text) joined ∙ flat_map_more (λ (k : Line). k.text) [] done l) in
    let last : end ≡ 0 + length (joined_texts (done ++ l ∷ [])) = omega (arith, ends, ap length read) in
    (item_within look depth x new done l new.next now.stands, (done ++ l ∷ [], now, grown ∙ (ap (λ z. z ++ record { end = end; level = l.level } ∷ []) are ∙ (ap (λ m. items_from 0 done ++ record { end = m; level = l.level } ∷ []) last ∙ sym (items_more 0 done l))), read))
