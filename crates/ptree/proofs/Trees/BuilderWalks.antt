-- What the walks through the builder's calls that return it share, and the names that they cite.
pub use Rattle.std.proofs.Common.{lit<, ◌≡◌, ℕ, ◌+◌, ◌<◌, Bool, true, false, Ok, Err, IfOk, OnOk, OnErr, if◌then◌else◌, string_bytes, List, [], ◌∷◌, ◌++◌, refl, sym, ap, ◌∙◌, subst, MutBor}
use Rattle.std.proofs.Common.{Result}
pub use Rattle.std.proofs.raw_atomic.Walks.{proved_at, leaves}
pub use Rattle.std.proofs.ResultValues.{ok_of}
use Rattle.std.proofs.ResultValues.{err_of}
pub use Rattle.std.proofs.VecSteps.Shapes.{after, head, arm_body}
pub use base.Fml.{Lft, Share, ftrue, flft, fres}
use base.Fml.{Fml, GName, fauth, fsep, feq, fex}
pub use base.Fraction.{full_share}
pub use base.Logic.{SProp, ent, id⊢, emp}
use base.Logic.{via, wand}
pub use contract.Monad.{fact, fact_i}
pub use contract.Running.{Running, MachineTables, tables}
pub use denote.Builtin.{bool, unit}
pub use denote.Exit.{yes, no}
use denote.Exit.{left}
use denote.Follow.{follows, follows_by}
use denote.Laws.{Is, Typed}
pub use denote.Lend.{lends_again, comes_back, LentAgain}
use denote.Param.{layout}
use denote.Param.Mute.{had}
pub use denote.Plain.{bool_vals, bool_Tells}
pub use denote.RattleType.{RattleType}
pub use denote.Ref.{MutRef, mut_vals, mut_Tells}
pub use denote.Signature.{plain, mut_ref_to}
pub use denote.Steps.{only, nothing, heard}
use denote.Steps.{owned}
use denote.Struct.Struct.{Struct, Struct-Makes}
pub use denote.Triple.Call.{calls_at}
pub use denote.Triple.Clauses.{Clauses, lasts}
pub use denote.Triple.Spec.{triple_of}
pub use denote.Triple.Table.{framed}
pub use denote.Triple.Walked.{Stays, stay_dropped, walk_of, Goes-dropped, Goes-spent_ref}
use denote.Triple.Walked.{Goes}
use lib.Dec.{T}
pub use mir.Syntax.{Body, named, place}
use mir.Syntax.{Ty}
pub use mir.Val.{Val, WT, of_list, vbool, vstruct, vnil}
use mir.Val.{has_ty, vptr}
pub use prog.Model.{Model}
pub use prog.Wired.{Wired}
pub use prog.Wp.{Env, Wp, WpFn, after_seq, at_return}
pub use seplogic.Ra.Ura.{Ura}
pub use types.ByLocal.{alloc_all, pass_all, free_all, look_at, holding, get, get_in, get_tag, through, sets, sets_last, lands_as, env}
pub use types.Kit.{Seq, Go, ⋆, lands, any_q, at_ret, Post, ‵, raw, ◌⊛◌, some, later, ◌$◌, ◌∵◌, !, qed, by, move, keep, drop, use0, use1, use2, use3, split, join, fsplit, fsplit3, fjoin, fjoin3, fpick, feq_l, feq_i, pick, await}
use types.Kit.{fpack, rewrite, each, assume, done}
pub use types.Logic.{Logic}
use types.Logic.{sem}
pub use types.Match.{live, vrt, in_variant}
pub use types.Part.{whole, agg}
pub use types.Run.{enter, of_opd, addr, lit, true_lit, false_lit, stop, fld, no_more, and_then, first, switches_on, exec, returns}
pub use types.Tokens.{lft_new, lft_end}
use denote.Struct.Declared as Declared
use Rattle.std.specs.contracts.alloc.AllocError as refusal
use Rattle.std.specs.contracts.alloc.Global as global
use Rattle.std.specs.contracts.impls.GlobalAllocator.TheImpl as heap
use Rattle.std.specs.contracts.result.Result as result
use Rattle.std.specs.contracts.string.String as string
use Rattle.std.proofs.alloc.Global.TheLaws as heap_laws
use Rattle.std.proofs.string.String.TheLaws as string_laws
use Rattle.ptree.specs.HandedBack.{HandsBack}
use Rattle.ptree.specs.TreeBuilder.{Building, AddsChild}
use Rattle.ptree.specs.contracts.builder.TreeBuilder as builder

-- the types of the builder, of a text, and of an error
abbrev pub B : RattleType
B = builder.the_row

-- the type of a text
abbrev pub Text : RattleType
Text = string.the_row global.the_row heap.ghosts

-- the type of an error
abbrev pub Refused : RattleType
Refused = refusal.the_row

-- the type of a result: a returned builder, or an error
abbrev pub Back : Lft → RattleType
Back κ = result.the_row (MutRef (named 0) κ B) Refused

-- the reference that is returned is the one that was passed
abbrev pub Same : MutBor Building → Result (MutBor Building) Refused.Denot → Type 0
Same r x = IfOk x (λ b. b.ghost_name ≡ r.ghost_name)

-- its builder has a child more
abbrev pub Added : MutBor Building → Text.Denot → Result (MutBor Building) Refused.Denot → Type 0
Added r text x = IfOk x (λ b. AddsChild r.now b.now (string_bytes text))

-- and stands at a level
abbrev pub Stands : ℕ → Result (MutBor Building) Refused.Denot → Type 0
Stands n x = IfOk x (λ b. b.now.level ≡ n)

-- the machine value of the reference
abbrev pub place_of : MutBor Building → Val
place_of r = vptr r.ref_ptr.0 r.ref_ptr.1

-- a machine value has the layout of a type
abbrev pub Fits : RattleType → Val → Type 0
Fits R v = T (has_ty (layout R) v) × WT v

-- values of a list of one type are one value of that type
alone : (τ : Ty) (vs : List Val) → Typed (τ ∷ []) vs → (v : Val) × ((vs ≡ v ∷ []) × (T (has_ty τ v) × WT v))
alone τ [] t = absurd t
alone τ (v ∷ []) t = (v, (refl, t.0))
alone τ (v ∷ w ∷ vs) t = absurd t.1

module _ {M : Type 1} {𝓤 : Ura M} (𝓛 : Logic 𝓤) where
  open 𝓛 use {A}

  -- a text is one machine value
  pub one_value : (text : Text.Denot) (vs : List Val) → Is Text text vs → (v : Val) × ((vs ≡ v ∷ []) × Fits Text v)
  one_value text vs is = alone (layout Text) vs (((string_laws.the_row_laws global.the_row heap.ghosts heap_laws.the_row_laws).lawful 𝓛).typed text vs is)

  -- nothing is left of a text that was dropped
  pub text_goes : Goes 𝓛 1 (plain (λ _. Text)) yes (stay_dropped (plain (λ _. Text)) yes)
  text_goes κs x w vs ok = via 𝓤 _ (had 𝓛 (left (Text.exit yes) x w) tt) (𝓛.laws.⇛_intro _)

  -- a reference continues as itself
  goes_on : (γ : GName) → ent 𝓤 (emp 𝓤) (sem 𝓛 (follows B B γ γ (λ w. w)))
  goes_on γ =
      let From : Building → Building → Fml = λ z w. fsep (feq Building z w) (fauth γ (B.coded.code w)) in
      let said = qed 𝓛 [] ∵ each ! (λ (w : Building). wand 𝓤 (A.res γ (B.coded.code w)) (A.res γ (B.coded.code w))) (λ w. assume ! (‵ (fres γ (B.coded.code w))) $ done !) in
      let back = qed 𝓛 [] ∵ each ! (λ (z : Building). wand 𝓤 (A.auth γ (B.coded.code z)) (sem 𝓛 (fex Building (From z)))) (λ z. assume ! (‵ (fauth γ (B.coded.code z))) $
      feq_i ! Building z z refl $ fjoin ! $ fpack ! Building (From z) z $ done !) in
      record { apply = λ a p. (said.apply a p, back.apply a p) }

  -- a builder that is returned
  pub handed_on : (r : MutBor Building) (m : Building) → ent 𝓤 (emp 𝓤) (sem 𝓛 (HandsBack {E = Refused.Denot} r (Ok (record r { now = m }))))
  unfolding follows_by
  handed_on r m = goes_on r.ghost_name

  -- a builder that is unchanged
  pub given_up : (r : MutBor Building) (m : Building) (n : Refused.Denot) → m ≡ r.now → ent 𝓤 (A.res r.ghost_name (B.coded.code m)) (sem 𝓛 (HandsBack r (Err n)))
  unfolding follows_by
  given_up r m n e = qed 𝓛 (‵ (fres r.ghost_name (B.coded.code m)) ∷ []) ∵ rewrite ! 0 (λ (x : Building). ‵ (fres r.ghost_name (B.coded.code x))) e refl $ done !

  -- an error that only says out of memory
  pub refusal_of : (κ : Lft) (n : Refused.Denot) → ent 𝓤 (emp 𝓤) (sem 𝓛 ((Back κ).own_val (Err n) (live 1 (of_list (vstruct vnil ∷ [])) ∷ [])))
  refusal_of κ n =
      let v : Val = vstruct vnil in
      qed 𝓛 [] ∵ owned ! (Struct (Declared.shape refusal.the_type)) (Is (Struct (Declared.shape refusal.the_type))) (Struct-Makes 𝓛 (Declared.shape refusal.the_type) tt) tt (v ∷ []) (tt, (refl, tt)) $
      by ! (err_of 𝓛 (MutRef (named 0) κ B) Refused n v)
