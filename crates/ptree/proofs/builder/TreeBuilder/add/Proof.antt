-- The builder is lent to add_line, and then handed back or given up.
use Rattle.ptree.proofs.Trees.BuilderWalks.{lit<, ◌≡◌, ℕ, ◌+◌, ◌<◌, Bool, Ok, Err, OnOk, OnErr, if◌then◌else◌, string_bytes, List, [], ◌∷◌, ◌++◌, refl, sym, ap, ◌∙◌, subst, MutBor, proved_at, leaves, ok_of, after, head, arm_body, Lft, Share, ftrue, flft, fres, full_share, SProp, ent, id⊢, emp, fact, fact_i, Running, MachineTables, tables, bool, unit, yes, no, lends_again, comes_back, LentAgain, bool_vals, bool_Tells, RattleType, MutRef, mut_vals, mut_Tells, plain, mut_ref_to, only, nothing, heard, calls_at, Clauses, lasts, triple_of, framed, Stays, stay_dropped, walk_of, Goes-dropped, Goes-spent_ref, Body, named, place, Val, WT, of_list, vbool, vstruct, vnil, Model, Wired, Env, Wp, WpFn, after_seq, at_return, Ura, alloc_all, pass_all, free_all, look_at, holding, get, get_in, get_tag, through, sets, sets_last, lands_as, env, Seq, Go, ⋆, lands, any_q, at_ret, Post, ‵, raw, ◌⊛◌, some, later, ◌$◌, ◌∵◌, !, qed, by, move, keep, drop, use0, use1, use2, use3, split, join, fsplit, fsplit3, fjoin, fpick, feq_l, pick, await, Logic, live, vrt, in_variant, whole, agg, enter, of_opd, addr, lit, stop, fld, no_more, and_then, first, switches_on, exec, returns, lft_new, lft_end, B, Text, Refused, Back, Same, Added, Stands, place_of, Fits, one_value, text_goes, handed_on, given_up, refusal_of}
use Rattle.std.specs.contracts.result.Result as result
use Rattle.ptree.specs.HandedBack.{HandsBack}
use Rattle.ptree.specs.TreeBuilder.{Building, AddsChild}
use Rattle.ptree.specs.contracts.builder.TreeBuilder.add as f
use Rattle.ptree.specs.contracts.builder.TreeBuilder.add_line as g
use Rattle.ptree.proofs.builder.TreeBuilder.add_line.Met.{met}
use Rattle.ptree.proofs.builder.TreeBuilder.add.Statement.{statement}
use Rattle.ptree.proofs.builder.TreeBuilder.add.Code as code

abbrev stayed : Stays f.ended.signature.params f.ended.kept
stayed = (stay_dropped (mut_ref_to (0 ∷ []) tt (plain (λ _. B))) no, (stay_dropped (plain (λ _. Text)) yes, (stay_dropped (plain (λ _. bool)) yes, tt)))

-- the result of add_line
abbrev Res : RattleType
Res = result.the_row unit Refused

-- what is known of the builder m that add_line left
record IsAdded (r m : Building) (text : Text.Denot) (flag : Bool) (res : Res.Denot) : Type 0 where
  outline : OnOk res (AddsChild r m (string_bytes text))
  level : OnOk res (m.level ≡ (if flag then r.level + 1 else r.level))
  kept : OnErr res (m ≡ r)

module _ {M : Type 1} (𝓤 : Ura M) (𝓛 : Logic 𝓤) (𝓜 : Model 𝓤 𝓛.H) (𝓡 : Running 𝓤 𝓛.H 𝓜) (wired : Wired 𝓡.env code.code) where
  abbrev c : Clauses 𝓤 f.ended
  c = f.clauses 𝓛 𝓜.mem 𝓡.returns

  abbrev 𝓣 : MachineTables 𝓤 𝓛.H 𝓜
  𝓣 = tables 𝓤 𝓛.H 𝓜 𝓡 𝓡.env

  module _ (κ : Lft) (q : Share) (r : MutBor Building) (text : Text.Denot) (flag : Bool) (w : Val) (fits : Fits Text w) where
    abbrev y : (walk_of 𝓛 f.ended stayed c).Ghost
    y = (((κ, tt), (q, tt), tt, (r, (text, (flag, tt))), (mut_vals r, (w ∷ [], (bool_vals flag, tt)))), tt)

    abbrev Ends : Val → SProp 𝓤
    Ends = (walk_of 𝓛 f.ended stayed c).post y

    abbrev Self : Lft → MutBor Building → base.Fml.Fml
    Self κ' x = (MutRef (named 0) κ' B).own_val x (mut_vals r)

    exits : (x : (Back κ).Denot) (v : Val) → Same r x → Added r text x → Stands (if flag then r.now.level + 1 else r.now.level) x → ent 𝓤 (⋆ 𝓛 (‵ ((Back κ).own_val x (v ∷ [])) ∷ ‵ (flft κ q) ∷ ‵ (HandsBack r x) ∷ [])) (Ends v)
    exits x v same added stands =
        qed 𝓛 (‵ ((Back κ).own_val x (v ∷ [])) ∷ ‵ (flft κ q) ∷ ‵ (HandsBack r x) ∷ []) ∵
        use0 𝓛 (raw (fact 𝓤 (Stands (if flag then r.now.level + 1 else r.now.level) x))) (fact_i 𝓤 (Stands (if flag then r.now.level + 1 else r.now.level) x) (emp 𝓤) stands) $ use0 𝓛 (raw (fact 𝓤 (Added r text x))) (fact_i 𝓤 (Added r text x) (emp 𝓤) added) $ join ! $
        use0 𝓛 (raw (fact 𝓤 (Same r x))) (fact_i 𝓤 (Same r x) (emp 𝓤) same) $ join ! $ move ! (3 ∷ 0 ∷ []) $ join ! $
        nothing ! $ nothing ! $ fjoin ! $ nothing ! $ fjoin ! $ nothing ! $ fjoin ! $
        nothing ! $ move ! (4 ∷ 0 ∷ []) $ join ! $ move ! (0 ∷ 1 ∷ 3 ∷ 2 ∷ []) $
        by ! (leaves 𝓛 f.ended stayed c y v x (tt, ((tt, tt), (tt, tt))) (tt, (tt, (tt, tt))))

    module _ (l : ℕ → ℕ) (v : Val) (m : Building) where
      abbrev En : Env 𝓤 𝓛.H
      En = env code.Mir.locals l

      abbrev both : Body
      both = head (after 3 (code.function).body)

      abbrev Then : Post 𝓤 𝓛.H
      Then = any_q (after_seq 𝓤 𝓛.H (Wp 𝓤 𝓛.H 𝓣.C 𝓣.Λ En (after 4 (code.function).body) (at_return 𝓤 𝓛.H En Ends)) (at_return 𝓤 𝓛.H En Ends))

      rest : (res : Res.Denot) → IsAdded r.now m text flag res
          → Seq (Go {0}) 𝓛 (‵ (Self κ (record r { now = m })) ∷ ‵ (flft κ q) ∷ ‵ (Res.own_val res (v ∷ [])) ∷ holding 𝓛 En ((7, w) ∷ (6, place_of r) ∷ (3, vbool flag) ∷ (2, w) ∷ (1, place_of r) ∷ []))
          (lands 𝓣.C 𝓣.Λ En (place 5 []) v (after 3 (code.function).body) (at_ret En Ends))
      rest (Ok u) told =
          let self : MutBor Building = record r { now = m } in
          let handed : WT (live 0 (of_list (place_of r ∷ []))) = (record { fits = lit< tt }, (tt, tt)) in
          move ! (2 ∷ []) $
          fpick ! (λ us. fsplit ! $ feq_l ! (λ e. fpick ! (λ vss. fsplit ! $ feq_l ! (λ e'. fsplit ! $ feq_l ! (λ e''. drop ! $
          lands_as ! (ap only e ∙ ap (λ (ws : List Val). live 0 (of_list ws)) (e' ∙ ap (λ (ws : List Val). ws ++ []) e'')) refl (tt, (record { fits = lit< tt }, (tt, tt))) $
          first ! $ switches_on ! (get_tag ! (vrt ! refl (fld ! refl (stop !))) (whole !)) $ exec ! 𝓣.C 𝓣.Λ En (arm_body 0 both) Then $
          sets ! (addr ! (through ! refl (stop !))) refl (tt, tt) $ sets_last ! (agg ! (and_then ! (lit ! tt) (and_then ! (get ! refl) (no_more !)))) refl (tt, handed) $
          exec ! 𝓣.C 𝓣.Λ En (after 4 (code.function).body) (at_ret En Ends) $ sets ! (of_opd ! (get ! refl)) refl (tt, handed) $
          returns ! (look_at ! 0 refl) $ free_all ! refl $
          use1 𝓛 (‵ ((Back κ).own_val (Ok self) (live 0 (of_list (place_of r ∷ [])) ∷ []))) (ok_of 𝓛 (MutRef (named 0) κ B) Refused self (place_of r)) $
          use0 𝓛 (‵ (HandsBack {E = Refused.Denot} r (Ok self))) (handed_on 𝓛 r m) $ move ! (1 ∷ 2 ∷ 0 ∷ []) $
          by ! (exits (Ok self) (live 0 (of_list (place_of r ∷ []))) refl told.outline told.level))))))
      rest (Err n) told =
          let refused : Val = vstruct vnil in
          let handed : WT (live 1 (of_list (refused ∷ []))) = (record { fits = lit< tt }, (tt, tt)) in
          move ! (2 ∷ []) $
          fpick ! (λ us. fsplit ! $ feq_l ! (λ e. fpick ! (λ vss. fsplit ! $ feq_l ! (λ e'. fsplit ! $ fpick ! (λ none. fsplit ! $ feq_l ! (λ e''. drop ! $ drop ! $
          lands_as ! (ap only e ∙ ap (λ (ws : List Val). live 1 (of_list ws)) (e' ∙ ap (λ (ws : List Val). ws ++ []) e'')) refl (tt, handed) $
          first ! $ switches_on ! (get_tag ! (vrt ! refl (fld ! refl (stop !))) (whole !)) $ exec ! 𝓣.C 𝓣.Λ En (arm_body 1 both) Then $
          sets ! (of_opd ! (get_in ! (vrt ! refl (fld ! refl (stop !))) (in_variant ! 1 0 refl refl (whole !)))) refl (tt, tt) $
          sets_last ! (agg ! (and_then ! (lit ! tt) (and_then ! (get ! refl) (no_more !)))) refl (tt, handed) $
          exec ! 𝓣.C 𝓣.Λ En (after 4 (code.function).body) (at_ret En Ends) $ sets ! (of_opd ! (get ! refl)) refl (tt, handed) $
          returns ! (look_at ! 0 refl) $ free_all ! refl $
          fsplit3 ! $ drop ! $ use1 𝓛 (‵ (fres r.ghost_name (B.coded.code m))) (𝓛.names.obs-res r.ghost_name (B.coded.code m)) $
          use1 𝓛 (‵ (HandsBack r (Err n))) (given_up 𝓛 r m n told.kept) $ keep ! (2 ∷ 0 ∷ []) $
          use0 𝓛 (‵ ((Back κ).own_val (Err n) (live 1 (of_list (refused ∷ [])) ∷ []))) (refusal_of 𝓛 κ n) $
          by ! (exits (Err n) (live 1 (of_list (refused ∷ []))) tt tt tt)))))))

    walk : ent 𝓤 ((walk_of 𝓛 f.ended stayed c).pre y) (WpFn 𝓤 𝓛.H 𝓣.C 𝓣.Λ code.function ((walk_of 𝓛 f.ended stayed c).args y) Ends)
    walk =
        let b = r.ref_ptr.0 in let o = r.ref_ptr.1 in let low : Type 0 = r.now.level < 4294967295 in
        qed 𝓛 (((‵ (flft κ q) ⊛ ‵ ftrue) ⊛ ‵ (Self κ r) ⊛ ‵ (Text.own_val text (w ∷ [])) ⊛ ‵ (bool.own_val flag (bool_vals flag)) ⊛ ‵ ftrue) ∷ raw (fact 𝓤 low) ∷ []) ∵
        move ! (1 ∷ []) $ heard ! _ (λ is_low.
        split ! $ split ! $ move ! (2 ∷ []) $ split ! $ move ! (1 ∷ []) $ split ! $ move ! (1 ∷ []) $ split ! $
        -- [is_begun; nothing; the text; self; the token of κ; nothing]
        keep ! (3 ∷ 4 ∷ 2 ∷ 0 ∷ []) $
        enter ! _ _ _ _ _ $ alloc_all ! (λ l. pass_all ! refl ((tt, tt), (fits, ((tt, tt), tt))) $
        sets ! (addr ! (through ! refl (stop !))) refl (tt, tt) $ sets ! (of_opd ! (get ! refl)) refl fits $
        -- [self; the token of κ; the text; is_begun; the locals]
        lft_new ! tt (λ α. move ! (1 ∷ 2 ∷ []) $
        use2 𝓛 (later (some (λ (δ : ℕ). ‵ (Self (α ∷ []) (record r { ghost_name = δ })) ⊛ ‵ (LentAgain B κ (α ∷ []) q r.ghost_name b o δ r.now))))
        (lends_again 𝓛 B (named 0) κ (α ∷ []) q r.ghost_name b o (named 0) r.now) $ await ! tt $ pick ! (λ δ. split ! $
        -- [the loan; what the lender keeps; the token of α; the text; is_begun]
        let G = triple_of 𝓛 g.signature (g.spec 𝓛 𝓜.mem 𝓡.returns) in
        let z : G.Ghost = (((α ∷ [], tt), (full_share, tt), tt, (record r { ghost_name = δ }, (text, (flag, tt))), (mut_vals r, (w ∷ [], (bool_vals flag, tt)))), tt) in
        nothing ! $ move ! (5 ∷ 0 ∷ []) $ join ! $ move ! (4 ∷ 0 ∷ []) $ join ! $ move ! (1 ∷ 0 ∷ []) $ join ! $
        nothing ! $ move ! (3 ∷ 0 ∷ []) $ join ! $ join ! $
        use0 𝓛 (raw (fact 𝓤 low)) (fact_i 𝓤 low (emp 𝓤) is_low) $ move ! (1 ∷ 0 ∷ []) $ use2 𝓛 (raw (G.pre z)) (id⊢ 𝓤 _) $
        calls_at ! (framed 𝓤 𝓛.H 𝓜 𝓣) G (met 𝓤 𝓛 𝓜 𝓡 (code.calls-ptree::builder::TreeBuilder::add_line 𝓡.env wired)) z
        (and_then ! (get ! refl) (and_then ! (get ! refl) (and_then ! (get ! refl) (no_more !)))) (λ v.
        use1 𝓛 (later (some (λ (res : Res.Denot). ((‵ (flft (α ∷ []) full_share) ⊛ ‵ ftrue) ⊛ ‵ (Res.own_val res (v ∷ []))) ⊛
        some (λ (ws : Building × ((Unit {0} × Unit {0}) × (Unit {0} × Unit {0}))). ‵ (lasts g.ended z.0.0 z.0.3 ws)
        ⊛ raw (fact 𝓤 (OnOk res (AddsChild r.now ws.0 (string_bytes text))))
        ⊛ raw (fact 𝓤 (OnOk res (ws.0.level ≡ (if flag then r.now.level + 1 else r.now.level)))) ⊛ raw (fact 𝓤 (OnErr res (ws.0 ≡ r.now))))))) (id⊢ 𝓤 _) $
        await ! tt $ pick ! (λ res. split ! $ split ! $ split ! $ lft_end ! tt $
        move ! (3 ∷ []) $ pick ! (λ ws. split ! $ move ! (1 ∷ []) $ split ! $ heard ! _ (λ outline. split ! $ heard ! _ (λ level. heard ! _ (λ kept.
        -- [the loan's last value; its borrow; nothing; α is over; nothing; the result; what the
        -- lender keeps]
        fsplit ! $ fsplit ! $ move ! (3 ∷ 6 ∷ 0 ∷ []) $
        use3 𝓛 (later (‵ (Self κ (record r { now = ws.0 })) ⊛ ‵ (flft κ q))) (comes_back 𝓛 B (named 0) κ (α ∷ []) q r.ghost_name b o δ r.now ws.0) $ await ! tt $ split ! $
        move ! (2 ∷ []) $ drop ! $ move ! (2 ∷ []) $ drop ! $ move ! (2 ∷ []) $ drop ! $
        rest l v ws.0 res (record { outline = outline; level = level; kept = kept })))))))))))

pub add_spec : {M : Type 1} → statement M
add_spec 𝓤 𝓛 𝓜 𝓡 wired =
    let c = f.clauses 𝓛 𝓜.mem 𝓡.returns in
    let W = walk_of 𝓛 f.ended stayed c in
    proved_at 𝓛 f.ended stayed c 𝓜 𝓡
    (Goes-spent_ref 𝓛 1 (0 ∷ []) tt (plain (λ _. B)), (text_goes 𝓛, (Goes-dropped 𝓛 1 (plain (λ _. bool)) yes (λ κs x w. refl), tt)))
    f.Key.name code.function (code.unfolded 𝓤 𝓛.H 𝓜 𝓡 wired) (λ y are.
    let κ = y.0.0.0 in let q = y.0.1.0 in let r = y.0.3.0 in let text = y.0.3.1.0 in let flag = y.0.3.1.1.0 in
    let one = one_value 𝓛 text y.0.4.1.0 are.1.0 in
    let told : y.0.4 ≡ (mut_vals r, (one.0 ∷ [], (bool_vals flag, tt))) =
    λ i. (mut_Tells (named 0) κ B r y.0.4.0 are.0 i, (one.1.0 i, (bool_Tells flag y.0.4.1.1.0 are.1.1.0 i, tt))) in
    subst (λ vss. let z : W.Ghost = ((y.0.0, y.0.1, y.0.2, y.0.3, vss), y.1) in
    ent 𝓤 (W.pre z) (WpFn 𝓤 𝓛.H (tables 𝓤 𝓛.H 𝓜 𝓡 𝓡.env).C (tables 𝓤 𝓛.H 𝓜 𝓡 𝓡.env).Λ code.function (W.args z) (W.post z))) (sym told)
    (walk 𝓤 𝓛 𝓜 𝓡 wired κ q r text flag one.0 one.1.1))
