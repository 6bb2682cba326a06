-- The pieces along a path with known last flags.
use Rattle.std.proofs.Common.{◌≡◌, Bool, List, [], ◌∷◌, ◌++◌, sym, ap, ◌∙◌, append_assoc}
use Rattle.std.proofs.lemmas.List.{append-nil}
use Rattle.ptree.specs.Pieces.{Pieces, passing_piece, passing_all}

-- the passing pieces of one flag more
pub passing_all-push : (p : Pieces) (above : List Bool) (b : Bool) → passing_all p (above ++ b ∷ []) ≡ passing_all p above ++ passing_piece p b
passing_all-push p [] b = append-nil (passing_piece p b)
passing_all-push p (a ∷ above) b = ap (λ z. passing_piece p a ++ z) (passing_all-push p above b) ∙ sym (append_assoc (passing_piece p a) (passing_all p above) (passing_piece p b))
