-- What the sink holds after the codes, the text and the reset are written.
use Rattle.std.proofs.Common.{◌≡◌, ℕ, List, ◌++◌, Option, Result, subst}
use Rattle.std.proofs.KnownBytes.{Appends-trans}
use Rattle.std.specs.Io.KnownBytes.{Appends}
use Rattle.ptree.specs.Writing.{AppendsPart, IsWritten}
use Rattle.ptree.proofs.Sinks.Written.{part_more, part_then, written_then}

-- writing the codes failed
pub codes_part : (a b : Option (List ℕ)) (x start text end : List ℕ) → x ≡ start → AppendsPart a b x → AppendsPart a b (start ++ text ++ end)
codes_part a b x start text end e h = part_more a b (start ++ text) end (part_more a b start text (subst (λ bs. AppendsPart a b bs) e h))

-- writing the text failed
pub text_part : (a b c : Option (List ℕ)) (x y start text end : List ℕ) → x ≡ start → y ≡ text → Appends a b x → AppendsPart b c y → AppendsPart a c (start ++ text ++ end)
text_part a b c x y start text end e f h k =
    part_more a c (start ++ text) end (part_then a b c start text (subst (λ bs. Appends a b bs) e h) (subst (λ bs. AppendsPart b c bs) f k))

-- the reset is written last
pub all_written : {A E : Type 0} (a b c d : Option (List ℕ)) (r : Result A E) (x y z start text end : List ℕ) → x ≡ start → y ≡ text → z ≡ end
    → Appends a b x → Appends b c y → IsWritten c d r z → IsWritten a d r (start ++ text ++ end)
all_written a b c d r x y z start text end e f g h k w =
    written_then a c d r (start ++ text) end (Appends-trans a b c start text (subst (λ bs. Appends a b bs) e h) (subst (λ bs. Appends b c bs) f k)) (subst (λ bs. IsWritten c d r bs) g w)
