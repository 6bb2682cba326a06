-- The keys of a file, gathered one by one.
use Rattle.std.proofs.Common.{◌≡◌, ◌∙◌, List, [], ◌∷◌, ◌++◌, append_assoc, append-nil, refl, ap, sym, subst}
use Rattle.ptree.specs.Matched.{AreMatched}
use Rattle.ptree_sources.specs.KeyLists.{AddsKeys, HasKeysBut, AddsKeysBut}
use Rattle.ptree_sources.specs.Settings.{KeyValue, IsEntry}
use Rattle.ptree_sources.specs.declared.settings.keys.Entry.{Entry}

-- two matched lists, and two more after them
AreMatched-append : (ks ls : List KeyValue) (es fs : List Entry) → AreMatched IsEntry ks es → AreMatched IsEntry ls fs → AreMatched IsEntry (ks ++ ls) (es ++ fs)
AreMatched-append [] ls [] fs h g = g
AreMatched-append [] ls (e ∷ es) fs h g = absurd h
AreMatched-append (k ∷ ks) ls [] fs h g = absurd h
AreMatched-append (k ∷ ks) ls (e ∷ es) fs h g = (h.0, AreMatched-append ks ls es fs h.1 g)

-- entries of the first keys that are left come after the others
pub and_more : (all left ks ls : List KeyValue) (found new : List Entry) → HasKeysBut all left found → left ≡ ks ++ ls → AddsKeys found new ks → HasKeysBut all ls new
and_more all left ks ls found new h e a = record {
  go = λ rest g.
      let both : AreMatched IsEntry left (a.more ++ rest) = subst (λ z. AreMatched IsEntry z (a.more ++ rest)) (sym e) (AreMatched-append ks ls a.more rest a.matched g) in
      subst (AreMatched IsEntry all) (sym (append_assoc found a.more rest) ∙ ap (λ z. z ++ rest) (sym a.added)) (h.go (a.more ++ rest) both);
}

-- no keys are left
pub all_found : (all left : List KeyValue) (found : List Entry) → HasKeysBut all left found → left ≡ [] → AreMatched IsEntry all found
all_found all left found h e = subst (AreMatched IsEntry all) (append-nil found) (h.go [] (subst (λ z. AreMatched IsEntry z []) (sym e) tt))

-- the entry of the first key that is left is added
pub one_added : (all left ls : List KeyValue) (k : KeyValue) (old found new : List Entry) (entry : Entry) → AddsKeysBut all left old found → left ≡ k ∷ ls
    → IsEntry k entry → new ≡ found ++ entry ∷ [] → AddsKeysBut all ls old new
one_added all left ls k old found new entry h e is a = record {
  more = h.more ++ entry ∷ [];
  added = a ∙ ap (λ z. z ++ entry ∷ []) h.added ∙ append_assoc old h.more (entry ∷ []);
  but = and_more all left (k ∷ []) ls h.more (h.more ++ entry ∷ []) h.but e (record { more = entry ∷ []; added = refl; matched = (is, tt) });
}

-- no keys are left to add
pub all_added : (all left : List KeyValue) (old new : List Entry) → AddsKeysBut all left old new → left ≡ [] → AddsKeys old new all
all_added all left old new h e = record { more = h.more; added = h.added; matched = all_found all left h.more h.but e }
