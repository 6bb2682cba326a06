-- `next` makes the empty struct, with the count that its clause names. Assumes `Logic`.
use Rattle.std.proofs.Common.{List, [], ◌∷◌, ◌++◌, ◌+◌, refl}
use Rattle.std.proofs.raw_atomic.Walks.{proved_at}
use mir.Val.{Val}
use contract.Running.{tables}
use prog.Wp.{WpFn}
use types.Kit.{‵, raw, ◌⊛◌, prop, ◌$◌, ◌∵◌, !, qed, move, keep, drop, split, fsplit, fjoin, feq_l, regoal, suffices, done}
use types.Part.{agg}
use types.Run.{enter, returns, and_then, no_more}
use types.ByLocal.{alloc_all, pass_all, free_all, look_at, get, sets}
use denote.Exit.{yes}
use denote.RattleType.{owns}
use denote.Laws.{Is}
use denote.Builtin.{unit, RefOf}
use denote.Signature.{plain, types_at}
use denote.Steps.{nothing, owned}
use denote.Struct.Laws.{makes}
use denote.Triple.Entry.{alive}
use denote.Triple.Walked.{says, Stays, stay_dropped, walk_of, ends_at, Goes-dropped}
use Rattle.std.specs.contracts.marker.PhantomData as Mark
use Rattle.ptree.proofs.Sinks.FaultWalks.{none, one, one_made}
use Rattle.ptree.specs.contracts.sink.faults.FaultCount as count
use Rattle.ptree.specs.contracts.sink.faults.FaultCount.next as f
use Rattle.ptree.proofs.sink.faults.FaultCount.next.Statement.{statement}
use Rattle.ptree.proofs.sink.faults.FaultCount.next.Code as code

abbrev stayed : Stays f.ended.signature.params f.ended.kept
stayed = (stay_dropped (RefOf (0 ∷ []) tt (plain (λ _. count.the_row)) (λ _. tt)) yes, tt)

pub next_spec : {M : Type 1} → statement M
next_spec 𝓤 𝓛 𝓜 𝓡 wired =
    let c = f.clauses 𝓛 𝓜.mem 𝓡.returns in
    let 𝓣 = tables 𝓤 𝓛.H 𝓜 𝓡 𝓡.env in
    proved_at 𝓛 f.ended stayed c 𝓜 𝓡 (Goes-dropped 𝓛 1 (RefOf (0 ∷ []) tt (plain (λ _. count.the_row)) (λ _. tt)) yes (λ κs x w. refl), tt)
    f.Key.name code.function (code.unfolded 𝓤 𝓛.H 𝓜 𝓡 wired) (λ z are.
    let r = z.0.3.0 in
    let made : (count.the_row).Denot = record { of = record {}; count = r.now.count + 1 } in
    qed 𝓛 ((raw (alive 𝓛 f.ended.signature z.0.0 z.0.1) ⊛ ‵ (owns (types_at f.ended.signature.params z.0.0) z.0.3 z.0.4)) ∷ raw ((c z.0.0 z.0.3).requires z.1) ∷ []) ∵
    keep ! (0 ∷ []) $ split ! $ move ! (1 ∷ []) $
    fsplit ! $ fsplit ! $ feq_l ! (λ is₀. drop ! $ drop ! $
    regoal ! (λ (us : List Val). prop (WpFn 𝓤 𝓛.H 𝓣.C 𝓣.Λ code.function (us ++ []) ((walk_of 𝓛 f.ended stayed c).post z))) is₀ refl $
    enter ! _ _ _ _ _ $ alloc_all ! (λ l. pass_all ! refl ((tt, tt), tt) $
    sets ! (agg ! (no_more !)) refl (tt, tt) $
    sets ! (agg ! (and_then ! (get ! refl) (no_more !))) refl (tt, (tt, tt)) $
    nothing ! $ owned ! (Mark.the_row unit) (Is (Mark.the_row unit)) (makes (Mark.the_type unit) tt 𝓛) (record {}) (none ∷ []) (tt, (refl, tt)) $
    one_made ! (Mark.the_row unit) (record {}) none $ fjoin ! $
    returns ! (look_at ! 0 refl) $ free_all ! refl $
    suffices ! _ (ends_at 𝓛 f.ended stayed c z (one none) made (tt, tt) (tt, tt)) $ says ! refl $
    nothing ! $ nothing ! $ fjoin ! $ move ! (2 ∷ 0 ∷ 1 ∷ []) $ done !)))
