-- The builder is passed to add unchanged, and the result of add is returned.
use Rattle.ptree.proofs.Trees.BuilderWalks.{lit<, ◌≡◌, ℕ, ◌+◌, ◌<◌, true, Ok, Err, List, [], ◌∷◌, ◌++◌, refl, sym, ap, ◌∙◌, subst, MutBor, proved_at, leaves, ok_of, Lft, Share, ftrue, flft, SProp, ent, id⊢, emp, fact, fact_i, Running, MachineTables, tables, yes, no, MutRef, mut_vals, mut_Tells, plain, mut_ref_to, only, nothing, heard, calls_at, Clauses, lasts, triple_of, framed, Stays, stay_dropped, walk_of, Goes-spent_ref, named, place, Val, WT, of_list, vbool, vstruct, vnil, Model, Wired, Env, WpFn, Ura, alloc_all, pass_all, free_all, look_at, holding, get, through, sets, lands_as, env, Seq, Go, ⋆, lands, at_ret, ‵, raw, ◌⊛◌, some, later, ◌$◌, ◌∵◌, !, qed, by, move, keep, drop, use0, use1, use2, split, join, fsplit, fsplit3, fjoin, fjoin3, fpick, feq_l, feq_i, pick, await, Logic, live, enter, of_opd, addr, true_lit, stop, no_more, and_then, returns, B, Text, Refused, Back, Same, Added, Stands, place_of, Fits, one_value, text_goes, refusal_of}
use Rattle.ptree.specs.HandedBack.{HandsBack}
use Rattle.ptree.specs.TreeBuilder.{Building}
use Rattle.ptree.specs.contracts.builder.TreeBuilder.begin_child as f
use Rattle.ptree.specs.contracts.builder.TreeBuilder.add as g
use Rattle.ptree.proofs.builder.TreeBuilder.add.Met.{met}
use Rattle.ptree.proofs.builder.TreeBuilder.begin_child.Statement.{statement}
use Rattle.ptree.proofs.builder.TreeBuilder.begin_child.Code as code

abbrev stayed : Stays f.ended.signature.params f.ended.kept
stayed = (stay_dropped (mut_ref_to (0 ∷ []) tt (plain (λ _. B))) no, (stay_dropped (plain (λ _. Text)) yes, tt))

module _ {M : Type 1} (𝓤 : Ura M) (𝓛 : Logic 𝓤) (𝓜 : Model 𝓤 𝓛.H) (𝓡 : Running 𝓤 𝓛.H 𝓜) (wired : Wired 𝓡.env code.code) where
  abbrev c : Clauses 𝓤 f.ended
  c = f.clauses 𝓛 𝓜.mem 𝓡.returns

  abbrev 𝓣 : MachineTables 𝓤 𝓛.H 𝓜
  𝓣 = tables 𝓤 𝓛.H 𝓜 𝓡 𝓡.env

  module _ (κ : Lft) (q : Share) (r : MutBor Building) (text : Text.Denot) (w : Val) (fits : Fits Text w) where
    abbrev y : (walk_of 𝓛 f.ended stayed c).Ghost
    y = (((κ, tt), (q, tt), tt, (r, (text, tt)), (mut_vals r, (w ∷ [], tt))), tt)

    abbrev Ends : Val → SProp 𝓤
    Ends = (walk_of 𝓛 f.ended stayed c).post y

    exits : (x : (Back κ).Denot) (v : Val) → Same r x → Added r text x → Stands (r.now.level + 1) x → ent 𝓤 (⋆ 𝓛 (‵ ((Back κ).own_val x (v ∷ [])) ∷ ‵ (flft κ q) ∷ ‵ (HandsBack r x) ∷ [])) (Ends v)
    exits x v same added stands =
        qed 𝓛 (‵ ((Back κ).own_val x (v ∷ [])) ∷ ‵ (flft κ q) ∷ ‵ (HandsBack r x) ∷ []) ∵
        use0 𝓛 (raw (fact 𝓤 (Stands (r.now.level + 1) x))) (fact_i 𝓤 (Stands (r.now.level + 1) x) (emp 𝓤) stands) $ use0 𝓛 (raw (fact 𝓤 (Added r text x))) (fact_i 𝓤 (Added r text x) (emp 𝓤) added) $ join ! $
        use0 𝓛 (raw (fact 𝓤 (Same r x))) (fact_i 𝓤 (Same r x) (emp 𝓤) same) $ join ! $ move ! (3 ∷ 0 ∷ []) $ join ! $
        nothing ! $ nothing ! $ fjoin ! $ nothing ! $ fjoin ! $
        nothing ! $ move ! (4 ∷ 0 ∷ []) $ join ! $ move ! (0 ∷ 1 ∷ 3 ∷ 2 ∷ []) $
        by ! (leaves 𝓛 f.ended stayed c y v x (tt, ((tt, tt), tt)) (tt, (tt, tt)))

    module _ (l : ℕ → ℕ) (v : Val) where
      abbrev En : Env 𝓤 𝓛.H
      En = env code.Mir.locals l

      rest : (x : (Back κ).Denot) → Same r x → Added r text x → Stands (r.now.level + 1) x
          → Seq (Go {0}) 𝓛 (‵ ((Back κ).own_val x (v ∷ [])) ∷ ‵ (flft κ q) ∷ ‵ (HandsBack r x) ∷ holding 𝓛 En ((4, w) ∷ (3, place_of r) ∷ (2, w) ∷ (1, place_of r) ∷ []))
          (lands 𝓣.C 𝓣.Λ En (place 0 []) v (code.Mir.t-4) (at_ret En Ends))
      rest (Ok b) same added stands =
          let handed : WT (live 0 (of_list (place_of b ∷ []))) = (record { fits = lit< tt }, (tt, tt)) in
          fpick ! (λ us. fsplit ! $ feq_l ! (λ e. fpick ! (λ vss. fsplit ! $ feq_l ! (λ e'. fsplit ! $ fsplit3 ! $ feq_l ! (λ e''.
          lands_as ! (ap only e ∙ ap (λ (ws : List Val). live 0 (of_list ws)) (e' ∙ ap (λ (ws : List Val). ws ++ []) e'')) refl (tt, handed) $
          returns ! (look_at ! 0 refl) $ free_all ! refl $
          feq_i ! (List Val) (mut_vals b) (mut_vals b) refl $ fjoin3 ! $ keep ! (0 ∷ 2 ∷ 3 ∷ []) $
          use1 𝓛 (‵ ((Back κ).own_val (Ok b) (live 0 (of_list (place_of b ∷ [])) ∷ []))) (ok_of 𝓛 (MutRef (named 0) κ B) Refused b (place_of b)) $
          by ! (exits (Ok b) (live 0 (of_list (place_of b ∷ []))) same added stands))))))
      rest (Err n) same added stands =
          let refused : Val = vstruct vnil in
          let handed : WT (live 1 (of_list (refused ∷ []))) = (record { fits = lit< tt }, (tt, tt)) in
          fpick ! (λ us. fsplit ! $ feq_l ! (λ e. fpick ! (λ vss. fsplit ! $ feq_l ! (λ e'. fsplit ! $ fpick ! (λ none. fsplit ! $ feq_l ! (λ e''. drop ! $ drop ! $
          lands_as ! (ap only e ∙ ap (λ (ws : List Val). live 1 (of_list ws)) (e' ∙ ap (λ (ws : List Val). ws ++ []) e'')) refl (tt, handed) $
          returns ! (look_at ! 0 refl) $ free_all ! refl $
          use0 𝓛 (‵ ((Back κ).own_val (Err n) (live 1 (of_list (refused ∷ [])) ∷ []))) (refusal_of 𝓛 κ n) $
          by ! (exits (Err n) (live 1 (of_list (refused ∷ []))) tt tt tt)))))))

    walk : ent 𝓤 ((walk_of 𝓛 f.ended stayed c).pre y) (WpFn 𝓤 𝓛.H 𝓣.C 𝓣.Λ code.function ((walk_of 𝓛 f.ended stayed c).args y) Ends)
    walk =
        let low : Type 0 = r.now.level < 4294967295 in
        qed 𝓛 (((‵ (flft κ q) ⊛ ‵ ftrue) ⊛ ‵ ((MutRef (named 0) κ B).own_val r (mut_vals r)) ⊛ ‵ (Text.own_val text (w ∷ [])) ⊛ ‵ ftrue) ∷ raw (fact 𝓤 low) ∷ []) ∵
        move ! (1 ∷ []) $ heard ! _ (λ is_low.
        split ! $ split ! $ move ! (2 ∷ []) $ split ! $ move ! (1 ∷ []) $ split ! $
        -- [the text; nothing; self; the token of κ; nothing]
        keep ! (2 ∷ 3 ∷ 0 ∷ []) $
        enter ! _ _ _ _ _ $ alloc_all ! (λ l. pass_all ! refl ((tt, tt), (fits, tt)) $
        sets ! (addr ! (through ! refl (stop !))) refl (tt, tt) $ sets ! (of_opd ! (get ! refl)) refl fits $
        -- [self; the token of κ; the text; the locals]
        let G = triple_of 𝓛 g.signature (g.spec 𝓛 𝓜.mem 𝓡.returns) in
        let z : G.Ghost = (((κ, tt), (q, tt), tt, (r, (text, (true, tt))), (mut_vals r, (w ∷ [], (vbool true ∷ [], tt)))), tt) in
        nothing ! $ feq_i ! (List Val) (vbool true ∷ []) (vbool true ∷ []) refl $ join ! $ move ! (3 ∷ 0 ∷ []) $ join ! $ move ! (1 ∷ 0 ∷ []) $ join ! $
        nothing ! $ move ! (2 ∷ 0 ∷ []) $ join ! $ join ! $
        use0 𝓛 (raw (fact 𝓤 low)) (fact_i 𝓤 low (emp 𝓤) is_low) $ move ! (1 ∷ 0 ∷ []) $ use2 𝓛 (raw (G.pre z)) (id⊢ 𝓤 _) $
        calls_at ! (framed 𝓤 𝓛.H 𝓜 𝓣) G (met 𝓤 𝓛 𝓜 𝓡 (code.calls-ptree::builder::TreeBuilder::add 𝓡.env wired)) z
        (and_then ! (get ! refl) (and_then ! (get ! refl) (and_then ! (true_lit !) (no_more !)))) (λ v.
        use1 𝓛 (later (some (λ (x : (Back κ).Denot). ((‵ (flft κ q) ⊛ ‵ ftrue) ⊛ ‵ ((Back κ).own_val x (v ∷ []))) ⊛
        some (λ (ws : Unit {0} × ((Unit {0} × Unit {0}) × (Unit {0} × Unit {0}))). ‵ (lasts g.ended z.0.0 z.0.3 ws)
        ⊛ ‵ (HandsBack r x) ⊛ raw (fact 𝓤 (Same r x)) ⊛ raw (fact 𝓤 (Added r text x)) ⊛ raw (fact 𝓤 (Stands (r.now.level + 1) x)))))) (id⊢ 𝓤 _) $
        await ! tt $ pick ! (λ x. split ! $ split ! $ split ! $
        move ! (3 ∷ []) $ pick ! (λ ws. split ! $ drop ! $ split ! $ move ! (1 ∷ []) $ split ! $ heard ! _ (λ same. split ! $ heard ! _ (λ added. heard ! _ (λ stands.
        -- [what becomes of the builder; the token of κ; nothing; the result]
        move ! (2 ∷ []) $ drop ! $ move ! (2 ∷ 1 ∷ 0 ∷ []) $ rest l v x same added stands))))))))

pub begin_child_spec : {M : Type 1} → statement M
begin_child_spec 𝓤 𝓛 𝓜 𝓡 wired =
    let c = f.clauses 𝓛 𝓜.mem 𝓡.returns in
    let W = walk_of 𝓛 f.ended stayed c in
    proved_at 𝓛 f.ended stayed c 𝓜 𝓡 (Goes-spent_ref 𝓛 1 (0 ∷ []) tt (plain (λ _. B)), (text_goes 𝓛, tt))
    f.Key.name code.function (code.unfolded 𝓤 𝓛.H 𝓜 𝓡 wired) (λ y are.
    let κ = y.0.0.0 in let q = y.0.1.0 in let r = y.0.3.0 in let text = y.0.3.1.0 in
    let one = one_value 𝓛 text y.0.4.1.0 are.1.0 in
    let told : y.0.4 ≡ (mut_vals r, (one.0 ∷ [], tt)) = λ i. (mut_Tells (named 0) κ B r y.0.4.0 are.0 i, (one.1.0 i, tt)) in
    subst (λ vss. let z : W.Ghost = ((y.0.0, y.0.1, y.0.2, y.0.3, vss), y.1) in
    ent 𝓤 (W.pre z) (WpFn 𝓤 𝓛.H (tables 𝓤 𝓛.H 𝓜 𝓡 𝓡.env).C (tables 𝓤 𝓛.H 𝓜 𝓡 𝓡.env).Λ code.function (W.args z) (W.post z))) (sym told)
    (walk 𝓤 𝓛 𝓜 𝓡 wired κ q r text one.0 one.1.1))
