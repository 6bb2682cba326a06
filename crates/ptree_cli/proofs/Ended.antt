-- How a call ends whose output is behind a buffer.
use Rattle.std.proofs.Common.{◌≡◌, ◌+◌, ◌≤◌, ℕ, Option, Some, None, Result, Ok, Err, List, [], refl, sym, ap, subst, ◌∙◌, arith}
use Rattle.std.specs.Io.KnownBytes.{Keeps}
use Rattle.std.specs.Prelude.{OnOk}
use Rattle.ptree.specs.declared.sink.buffered.Buffered.{Buffered}
use Rattle.ptree.specs.declared.print_config.Sources.{Sources}
use Rattle.ptree.specs.declared.sink.DrawError.{DrawError}
use Rattle.ptree.specs.declared.sink.DrawError.TheVariants.{Write, Zero, Memory}
use Rattle.ptree.specs.Buffered.{inner_sink, held_bytes, given_bytes, reported_faults}
use Rattle.ptree.specs.Writing.{HasCause, TakesNoMemory}
use Rattle.ptree_cli.specs.Arrived.{HasGrown}
use Rattle.ptree_cli.specs.Command.{Request}
use Rattle.ptree_cli.specs.OwnTypes.{drawing_ending}
use Rattle.ptree_cli.specs.Run.{Stream, HasRun, Reports, EndsWith, HasReadCause, UnlessRead, status_of, ending_faults, ending_line, refused_end}
use Rattle.ptree_cli.specs.declared.ending.Ending.{Ending}
use Rattle.ptree_cli.specs.declared.ending.Ending.TheVariants.{Done, Usage, PiecesNotReadable, CannotRead, BadDocument, NotADrawing, CannotWrite, NoMemory}
use Rattle.ptree_cli.proofs.Arriving.{done_output, other_output, one_at_most, refused_stands, refused_faults, refused_read}
use Rattle.ptree_cli.proofs.Endings.{reported_ending}

-- a call with status 0 did everything
done_at_zero : (end : Ending) → status_of end ≡ 0 → end ≡ Done
done_at_zero Done e = refl
done_at_zero Usage e = let no : ⊥ = omega (arith, e) in absurd no
done_at_zero PiecesNotReadable e = let no : ⊥ = omega (arith, e) in absurd no
done_at_zero CannotRead e = let no : ⊥ = omega (arith, e) in absurd no
done_at_zero BadDocument e = let no : ⊥ = omega (arith, e) in absurd no
done_at_zero NotADrawing e = let no : ⊥ = omega (arith, e) in absurd no
done_at_zero CannotWrite e = let no : ⊥ = omega (arith, e) in absurd no
done_at_zero NoMemory e = let no : ⊥ = omega (arith, e) in absurd no

-- a flush reports no fault of the input
flushed_read : {A : Type 0} (flushed : Result A DrawError) (before after : Option (List ℕ)) (m n : ℕ) → n ≡ m → HasReadCause (drawing_ending flushed) before after m n
flushed_read (Ok x) before after m n h = h
flushed_read (Err (Write e)) before after m n h = h
flushed_read (Err Zero) before after m n h = h
flushed_read (Err Memory) before after m n h = h

-- no flush finds pieces that are not readable
flushed_readable : {A : Type 0} (flushed : Result A DrawError) → drawing_ending flushed ≡ PiecesNotReadable → ⊥
flushed_readable (Ok x) e = cc e
flushed_readable (Err (Write w)) e = cc e
flushed_readable (Err Zero) e = cc e
flushed_readable (Err Memory) e = cc e

-- a fact that holds of an input that no command reads
unless_read : (r : Option Request) {P : Type 0} → P → UnlessRead r P
unless_read None h = h
unless_read (Some r) h = λ reads. h

-- the buffer could not be allocated
pub refused_run : {I O E : Type 0} (sources : Sources) (r : Option Request) (n : ℕ) (remaining : I → Option (List ℕ)) (read_faults : I → ℕ) (contents : O → Option (List ℕ)) (faults : O → ℕ)
    (input : I) (out raw : O) (err : Stream E) (end : Ending) → raw ≡ out → end ≡ refused_end r → n ≡ status_of end
    → Reports (err.bytes err.old) (err.bytes err.new) (err.faults err.old) (err.faults err.new) (ending_line end) → (end ≡ Done → err.new ≡ err.old)
    → HasRun sources r n (record { bytes = remaining; faults = read_faults; old = input; new = input }) (record { bytes = contents; faults = faults; old = out; new = raw }) err
refused_run sources r n remaining read_faults contents faults input out raw err end same is status reported silent =
    let before = remaining input in
    let m = read_faults input in
    let stands = subst (λ s. EndsWith sources r (refused_end r) (record { input = before; output = contents out }) (record { input = before; output = contents s })) (sym same) (refused_stands sources r before (contents out)) in
    record {
      end = end;
      status = status;
      ends = subst (λ e. EndsWith sources r e (record { input = before; output = contents out }) (record { input = before; output = contents raw })) (sym is) stands;
      cause = omega (arith, ap faults same, ap ending_faults is, refused_faults r);
      read = subst (λ e. HasReadCause e before before m m) (sym is) (refused_read r before before m);
      reported = reported;
      silent = silent;
      input = unless_read r refl;
      unread = λ e. refl;
    }

-- a call over the buffer that did not do everything
pub other_run : {I O S E : Type 0} (contents : S → Option (List ℕ)) (faults : S → ℕ) (behind : O → Buffered S) (sources : Sources) (r : Option Request) (n : ℕ) (reader : Stream I) (first mid : O) (err : Stream E)
    (begun : Option (List ℕ)) (failed : ℕ) (out raw : S) → begun ≡ contents out → failed ≡ faults out
    → inner_sink (behind first) ≡ out → held_bytes (behind first) ≡ [] → reported_faults faults (behind first) ≡ faults out
    → HasRun sources r n reader (record { bytes = λ o. given_bytes contents (behind o); faults = λ o. reported_faults faults (behind o); old = first; new = mid }) err → (n ≡ 0 → ⊥)
    → raw ≡ inner_sink (behind mid) → HasGrown begun (contents raw) → ((e : ℕ) → reported_faults faults (behind mid) ≡ failed + e → e ≤ 1 → faults raw ≡ failed + e)
    → HasRun sources r n reader (record { bytes = contents; faults = faults; old = out; new = raw }) err
other_run contents faults behind sources r n reader first mid err begun failed out raw b f i h c run other is g met =
    record {
      end = run.end;
      status = run.status;
      ends = other_output contents sources r (reader.bytes reader.old) (reader.bytes reader.new) begun (behind first) (behind mid) out raw run.end b i h (λ done. other (run.status ∙ ap status_of done)) run.ends is g;
      cause = let m = met (ending_faults run.end) (omega (arith, run.cause, c, f)) (one_at_most run.end) in omega (arith, m, f);
      read = run.read;
      reported = run.reported;
      silent = run.silent;
      input = run.input;
      unread = run.unread;
    }

-- a call over the buffer that did everything, and the flush after it
pub flushed_run : {A I O S E : Type 0} (contents : S → Option (List ℕ)) (faults : S → ℕ) (behind : O → Buffered S) (sources : Sources) (r : Option Request) (n m : ℕ) (reader : Stream I) (first mid last : O)
    (said : E → Option (List ℕ)) (said_faults : E → ℕ) (before between after : E) (begun : Option (List ℕ)) (failed : ℕ) (out raw : S) (flushed : Result A DrawError) (end : Ending) → begun ≡ contents out → failed ≡ faults out
    → inner_sink (behind first) ≡ out → held_bytes (behind first) ≡ [] → reported_faults faults (behind first) ≡ faults out
    → HasRun sources r n reader (record { bytes = λ o. given_bytes contents (behind o); faults = λ o. reported_faults faults (behind o); old = first; new = mid })
    (record { bytes = said; faults = said_faults; old = before; new = between }) → n ≡ 0
    → Keeps (given_bytes contents (behind mid)) (given_bytes contents (behind last)) → OnOk flushed (held_bytes (behind last) ≡ [])
    → HasCause (reported_faults faults (behind mid)) (reported_faults faults (behind last)) flushed → TakesNoMemory flushed → end ≡ drawing_ending flushed
    → m ≡ status_of end → Reports (said between) (said after) (said_faults between) (said_faults after) (ending_line end) → (end ≡ Done → after ≡ between)
    → raw ≡ inner_sink (behind last) → HasGrown begun (contents raw) → ((e : ℕ) → reported_faults faults (behind last) ≡ failed + e → e ≤ 1 → faults raw ≡ failed + e)
    → HasRun sources r m reader (record { bytes = contents; faults = faults; old = out; new = raw }) (record { bytes = said; faults = said_faults; old = before; new = after })
flushed_run contents faults behind sources r n m reader first mid last said said_faults before between after begun failed out raw flushed end b f i h c run zero keeps all cause memory ended status reported silent is g met =
    let at_first = reader.bytes reader.old in
    let at_last = reader.bytes reader.new in
    let done = done_at_zero run.end (sym run.status ∙ zero) in
    let same = run.silent done in
    let given = subst (λ e. EndsWith sources r e (record { input = at_first; output = given_bytes contents (behind first) }) (record { input = at_last; output = given_bytes contents (behind mid) })) done run.ends in
    let read = subst (λ e. HasReadCause e at_first at_last (reader.faults reader.old) (reader.faults reader.new)) done run.read in
    record {
      end = end;
      status = status;
      ends = done_output contents sources r at_first at_last begun (behind first) (behind mid) (behind last) out raw flushed end b i h given keeps all memory is g ended;
      cause =
          let all_faults = met (ending_faults end) (omega (arith, cause, run.cause, ap ending_faults done, c, f, reported_ending flushed, ap ending_faults ended)) (one_at_most end) in
          omega (arith, all_faults, f);
      read = subst (λ e. HasReadCause e at_first at_last (reader.faults reader.old) (reader.faults reader.new)) (sym ended) (flushed_read flushed at_first at_last (reader.faults reader.old) (reader.faults reader.new) read);
      reported = subst (λ e. Reports (said e) (said after) (said_faults e) (said_faults after) (ending_line end)) same reported;
      silent = λ e. silent e ∙ same;
      input = run.input;
      unread = λ e. absurd (flushed_readable flushed (sym ended ∙ e));
    }
