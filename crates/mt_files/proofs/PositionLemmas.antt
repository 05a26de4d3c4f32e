-- The positions of marks, one by one.
use Rattle.std.proofs.Common.{◌≡◌, ℕ, suc, ◌+◌, ◌*◌, ◌<◌, ◌≤◌, false, List, [], ◌∷◌, ◌++◌, length, drop, refl, ap, sym, ◌∙◌, get_or, arith}
use Rattle.std.specs.Prelude.{Option, Some, Result, Ok, Err}
use Rattle.std.proofs.lemmas.List.{append-nil, append_assoc}
use Rattle.mt_facts.proofs.Lists.{drop_next}
use Rattle.mt_fault.specs.declared.fault.Fault.{Fault}
use Rattle.mt_fault.specs.declared.error.FileError.{FileError}
use Rattle.mt_fault.specs.declared.fault.Why.{Why}
use Rattle.mt_types.specs.Steps.{◌>>=◌, onto}
use Rattle.mt_types.proofs.StepLemmas.{then_of, then_bad}
use Rattle.mt_defs.specs.declared.frame.Frame.{Frame}
use Rattle.mt_defs.specs.declared.mark.Mark.{Mark}
use Rattle.mt_marks.specs.declared.rules.Former.{Former}
use Rattle.mt_marks.specs.MarkReading.{mark_reading}
use Rattle.mt_fault.specs.Faults.{blame, granule_fault}
use Rattle.mt_fault.specs.Results.{FailsAs}
use Rattle.mt_fault.specs.Results.{IsFault}
use Rattle.mt_files.specs.SkipMarks.{positions_reading}
use Rattle.mt_fault.proofs.FaultLemmas.{fault_gives}
use Rattle.mt_files.proofs.LoopLemmas.{at_end}

-- the positions before, and what is read of the other marks
abbrev pub behind : List ℕ → Result (List ℕ) Fault → Result (List ℕ) Fault
behind positions reading = reading >>= λ later. Ok (positions ++ later)

abbrev pub later_of : List ℕ → ℕ → ℕ → List Frame → ℕ → List Mark → Former → Result (List ℕ) Fault
later_of file per end frames granule marks here = onto here.position (positions_reading file per end frames (granule + per) (Some here) marks)

positions_next : (file : List ℕ) (per end : ℕ) (frames : List Frame) (granule : ℕ) (former : Option Former) (mark : Mark) (marks : List Mark)
    → positions_reading file per end frames granule former (mark ∷ marks) ≡ (blame (granule_fault file granule) (mark_reading end frames false former mark) >>= later_of file per end frames granule marks)
unfolding positions_reading
positions_next file per end frames granule former mark marks = refl

positions_none : (file : List ℕ) (per end : ℕ) (frames : List Frame) (granule : ℕ) (former : Option Former) → positions_reading file per end frames granule former [] ≡ Ok []
unfolding positions_reading
positions_none file per end frames granule former = refl

behind_onto : (positions : List ℕ) (position : ℕ) (reading : Result (List ℕ) Fault) → behind positions (onto position reading) ≡ behind (positions ++ position ∷ []) reading
behind_onto positions position (Ok later) = ap Ok (sym (append_assoc positions (position ∷ []) later))
behind_onto positions position (Err fault) = refl

positions_at : (file : List ℕ) (per end : ℕ) (frames : List Frame) (marks : List Mark) (i : ℕ) (former : Option Former) (mark : Mark) → i < length marks → mark ≡ get_or marks i mark
    → positions_reading file per end frames (i * per) former (drop i marks) ≡ (blame (granule_fault file (i * per)) (mark_reading end frames false former mark) >>= later_of file per end frames (i * per) (drop (i + 1) marks))
positions_at file per end frames marks i former mark inside at =
    ap (positions_reading file per end frames (i * per) former) (drop_next marks i mark inside at) ∙ positions_next file per end frames (i * per) former mark (drop (i + 1) marks)

pub mark_fails : (file : List ℕ) (per end : ℕ) (frames : List Frame) (marks : List Mark) (i : ℕ) (former : Option Former) (mark : Mark) (positions : List ℕ) (whole : Result (List ℕ) Fault) (why : Why) (e : FileError)
    → behind positions (positions_reading file per end frames (i * per) former (drop i marks)) ≡ whole → i < length marks → mark ≡ get_or marks i mark → mark_reading end frames false former mark ≡ Err why → IsFault (granule_fault file (i * per) why) e → FailsAs e whole
mark_fails file per end frames marks i former mark positions whole why e ahead inside at fails fault =
    let step = ap (blame (granule_fault file (i * per))) fails in
    fault_gives (granule_fault file (i * per) why) e whole fault
    (sym ahead ∙ ap (behind positions) (positions_at file per end frames marks i former mark inside at ∙ then_bad (blame (granule_fault file (i * per)) (mark_reading end frames false former mark)) (granule_fault file (i * per) why) (later_of file per end frames (i * per) (drop (i + 1) marks)) step))

pub mark_holds : (file : List ℕ) (per end : ℕ) (frames : List Frame) (marks : List Mark) (i : ℕ) (former : Option Former) (mark : Mark) (positions new : List ℕ) (whole : Result (List ℕ) Fault) (here : Former)
    → behind positions (positions_reading file per end frames (i * per) former (drop i marks)) ≡ whole → i < length marks → mark ≡ get_or marks i mark → mark_reading end frames false former mark ≡ Ok here → new ≡ positions ++ here.position ∷ []
    → behind new (positions_reading file per end frames ((i + 1) * per) (Some here) (drop (i + 1) marks)) ≡ whole
mark_holds file per end frames marks i former mark positions new whole here ahead inside at holds push =
    let granule : (i + 1) * per ≡ i * per + per = ap (λ k. k * per) (let e : i + 1 ≡ suc i = omega arith in e) ∙ omega arith in
    let later = positions_reading file per end frames (i * per + per) (Some here) (drop (i + 1) marks) in
    ap (λ (some : List ℕ). behind some (positions_reading file per end frames ((i + 1) * per) (Some here) (drop (i + 1) marks))) push
    ∙ ap (λ g. behind (positions ++ here.position ∷ []) (positions_reading file per end frames g (Some here) (drop (i + 1) marks))) granule
    ∙ sym (behind_onto positions here.position later)
    ∙ ap (behind positions) (sym (positions_at file per end frames marks i former mark inside at ∙ then_of (blame (granule_fault file (i * per)) (mark_reading end frames false former mark)) here (later_of file per end frames (i * per) (drop (i + 1) marks)) (ap (blame (granule_fault file (i * per))) holds)))
    ∙ ahead

pub marks_done : (file : List ℕ) (per end : ℕ) (frames : List Frame) (marks : List Mark) (i : ℕ) (former : Option Former) (positions : List ℕ) (whole : Result (List ℕ) Fault)
    → behind positions (positions_reading file per end frames (i * per) former (drop i marks)) ≡ whole → length marks ≤ i → whole ≡ Ok positions
marks_done file per end frames marks i former positions whole ahead over =
    sym ahead ∙ ap (behind positions) (ap (positions_reading file per end frames (i * per) former) (at_end marks i over) ∙ positions_none file per end frames (i * per) former) ∙ ap Ok (append-nil positions)
