use Rattle.std.proofs.Common.{◌+◌, ◌%◌, [], ◌∷◌, ◌++◌, ap, sym, ◌∙◌, append_assoc, arith}
use Rattle.ptree.specs.Codes.{codes_of}
use Rattle.ptree.proofs.Styles.Decimals.{byte_digit, byte_step}
use Rattle.ptree.proofs.style.codes.Codes.+push_number.Goals as goal
use Rattle.ptree.proofs.style.codes.Codes.+push_number.Goals.{then-n-ge10, else-n-ge10}

pub returns-clause-text : goal.returns-clause-text
returns-clause-text t c =
    let old = codes_of c.args.self.now in
    let last = (48 + c.args.n % 10) ∷ [] in
    c.push.ensures.text ∙ elim c.if-n-ge10.branch [
      | then-n-ge10 w ↦ ap (λ codes. codes_of codes ++ last) w.self-is ∙ ap (λ bs. bs ++ last) w.push_number.ensures.text
          ∙ append_assoc old _ last ∙ ap (λ bs. old ++ bs) (sym (byte_step c.args.n (omega arith) (omega arith)))
      | else-n-ge10 w ↦ ap (λ codes. codes_of codes ++ last) w.self-is ∙ ap (λ bs. old ++ bs) (sym (byte_digit c.args.n (omega arith)))
    ]
