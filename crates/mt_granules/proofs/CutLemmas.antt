-- Positions cut a payload into pieces whose lengths give the positions, and back; and pieces stand in runs, one per granule.
use Rattle.std.proofs.Common.{◌≡◌, ℕ, zero, suc, ◌+◌, ◌-◌, ◌*◌, ◌≤◌, List, [], ◌∷◌, ◌++◌, length, map, take, drop, refl, ap, sym, ◌∙◌, append_assoc, append-nil, arith, length-append, take-add}
use Rattle.std.specs.List.{concat, flat_map, sum}
use Rattle.std.proofs.lemmas.List.{length-take, length-take-le, length-drop, drop-drop, take-append-drop, take_at, drop_at}
use Rattle.std.proofs.Math.Seq.{take-append_seam, drop-append_seam}
use Rattle.mt_facts.proofs.Numbers.{sum_cons}
use Rattle.mt_defs.specs.Lists.{offsets_from}
use Rattle.mt_defs.specs.Marks.{granule_starts}
use Rattle.mt_granules.specs.PayloadReading.{pieces}

abbrev pub sizes_of : List (List ℕ) → List ℕ
sizes_of = map (λ (p : List ℕ). length p)

-- positions that never fall, the last of which is the total
abbrev pub RisesTo : ℕ → List ℕ → ℕ → Type 0
RisesTo a [] total = a ≡ total
RisesTo a (b ∷ ps) total = (a ≤ b) × RisesTo b ps total

pub rises_below : (a : ℕ) (ps : List ℕ) (total : ℕ) → RisesTo a ps total → a ≤ total
rises_below a [] total r = omega (arith, r)
rises_below a (b ∷ ps) total r = let below = rises_below b ps total r.1 in omega (arith, r.0)

between : (a b : ℕ) (payload : List ℕ) → a ≤ b → b ≤ length payload → length (take (b - a) (drop a payload)) ≡ b - a
between a b payload le within = omega (arith, length-take (b - a) (drop a payload), length-drop a payload)

-- the pieces joined are the payload between the first position and the last
pub pieces_joined : (a : ℕ) (ps : List ℕ) (total : ℕ) (payload : List ℕ) → RisesTo a ps total → total ≤ length payload → concat (pieces payload (a ∷ ps)) ≡ take (total - a) (drop a payload)
pieces_joined a [] total payload r within = none (drop a payload) (total - a) (omega (arith, r))
  where
    none : (xs : List ℕ) (n : ℕ) → n ≡ 0 → [] ≡ take n xs
    none xs n e = rw e refl
pieces_joined a (b ∷ ps) total payload r within =
    let below = rises_below b ps total r.1 in
    let more = pieces_joined b ps total payload r.1 within in
    let le = r.0 in
    let moved : drop (b - a) (drop a payload) ≡ drop b payload = drop-drop (b - a) a payload ∙ ap (λ (k : ℕ). drop k payload) (omega arith) in
    ap (λ (r : List ℕ). take (b - a) (drop a payload) ++ r) (more ∙ ap (take (total - b)) (sym moved))
    ∙ sym (take-add (b - a) (total - b) (drop a payload)) ∙ ap (λ (k : ℕ). take k (drop a payload)) (omega arith)

-- the pieces begin where the positions say
pub pieces_start : (a : ℕ) (ps : List ℕ) (total : ℕ) (payload : List ℕ) → RisesTo a ps total → total ≤ length payload → offsets_from a (sizes_of (pieces payload (a ∷ ps))) ++ total ∷ [] ≡ a ∷ ps
pieces_start a [] total payload r within = ap (λ (k : ℕ). k ∷ []) (sym r)
pieces_start a (b ∷ ps) total payload r within =
    let below = rises_below b ps total r.1 in
    let le = r.0 in
    let size = between a b payload le (omega arith) in
    let more = pieces_start b ps total payload r.1 within in
    ap (λ (k : ℕ). a ∷ (offsets_from k (sizes_of (pieces payload (b ∷ ps))) ++ total ∷ [])) (omega arith) ∙ ap (λ (qs : List ℕ). a ∷ qs) more

-- parts that stand one after another are the pieces between their starts
pub pieces_back : (front : List ℕ) (parts : List (List ℕ)) (a : ℕ) → length front ≡ a → pieces (front ++ concat parts) (offsets_from a (sizes_of parts) ++ (a + length (concat parts)) ∷ []) ≡ parts
pieces_back front [] a e = refl
pieces_back front (p ∷ []) a e = last_piece front p a e
  where
    last_piece : (front p : List ℕ) (a : ℕ) → length front ≡ a → take ((a + length (p ++ [])) - a) (drop a (front ++ (p ++ []))) ∷ [] ≡ p ∷ []
    last_piece front p a e =
        let d : drop a (front ++ (p ++ [])) ≡ p = ap (λ (k : ℕ). drop k (front ++ (p ++ []))) (sym e) ∙ drop-append_seam front (p ++ []) ∙ append-nil p in
        let n : (a + length (p ++ [])) - a ≡ length p = omega (arith, length-append p []) in
        ap (λ (xs : List ℕ). take ((a + length (p ++ [])) - a) xs ∷ []) d ∙ ap (λ (k : ℕ). take k p ∷ []) n ∙ ap (λ (xs : List ℕ). xs ∷ []) (ap (take (length p)) (sym (append-nil p)) ∙ take-append_seam p [])
pieces_back front (p ∷ q ∷ parts) a e =
    let more = pieces_back (front ++ p) (q ∷ parts) (a + length p) (omega (arith, length-append front p)) in
    let whole : front ++ (p ++ concat (q ∷ parts)) ≡ (front ++ p) ++ concat (q ∷ parts) = sym (append_assoc front p (concat (q ∷ parts))) in
    let total : a + length (p ++ concat (q ∷ parts)) ≡ (a + length p) + length (concat (q ∷ parts)) = omega (arith, length-append p (concat (q ∷ parts))) in
    let here : take ((a + length p) - a) (drop a (front ++ (p ++ concat (q ∷ parts)))) ≡ p =
    ap (λ (k : ℕ). take k (drop a (front ++ (p ++ concat (q ∷ parts))))) (omega arith) ∙ ap (λ (k : ℕ). take (length p) (drop k (front ++ (p ++ concat (q ∷ parts))))) (sym e)
    ∙ ap (take (length p)) (drop-append_seam front (p ++ concat (q ∷ parts))) ∙ take-append_seam p (concat (q ∷ parts)) in
    ap (λ (t : ℕ). take ((a + length p) - a) (drop a (front ++ (p ++ concat (q ∷ parts)))) ∷ pieces (front ++ (p ++ concat (q ∷ parts))) (offsets_from (a + length p) (sizes_of (q ∷ parts)) ++ t ∷ [])) total
    ∙ ap (λ (x : List ℕ). x ∷ pieces (front ++ (p ++ concat (q ∷ parts))) (offsets_from (a + length p) (sizes_of (q ∷ parts)) ++ ((a + length p) + length (concat (q ∷ parts))) ∷ [])) here
    ∙ ap (λ (payload : List ℕ). p ∷ pieces payload (offsets_from (a + length p) (sizes_of (q ∷ parts)) ++ ((a + length p) + length (concat (q ∷ parts))) ∷ [])) whole
    ∙ ap (λ (rest : List (List ℕ)). p ∷ rest) more

-- ---- runs

-- so many runs of so many things
abbrev pub runs : {X : Type 0} → (per n : ℕ) → List X → List (List X)
runs per zero xs = []
runs per (suc n) xs = take per xs ∷ runs per n (drop per xs)

abbrev pub flat : {X : Type 0} → List (List X) → List X
flat = flat_map (λ xs. xs)

-- each run has so many things
abbrev pub AreRuns : {X : Type 0} → ℕ → List (List X) → Type 0
AreRuns per [] = Unit {0}
AreRuns per (run ∷ more) = (length run ≡ per) × AreRuns per more

no_more : {X : Type 0} (xs : List X) → length xs ≡ 0 → xs ≡ []
no_more [] e = refl
no_more (x ∷ xs) e = absurd (omega arith)

pub runs_joined : {X : Type 0} (per n : ℕ) (xs : List X) → length xs ≡ n * per → flat (runs per n xs) ≡ xs
runs_joined per zero xs long = sym (no_more xs (omega (arith, long)))
runs_joined {X} per (suc n) xs long = ap (λ (l : List X). take per xs ++ l) (runs_joined per n (drop per xs) (length-drop per xs ∙ omega (arith, long))) ∙ take-append-drop per xs

pub runs_are : {X : Type 0} (per n : ℕ) (xs : List X) → length xs ≡ n * per → AreRuns per (runs per n xs)
runs_are per zero xs long = tt
runs_are per (suc n) xs long = (length-take-le per xs (omega (arith, long)), runs_are per n (drop per xs) (length-drop per xs ∙ omega (arith, long)))

pub length-runs : {X : Type 0} (per n : ℕ) (xs : List X) → length (runs per n xs) ≡ n
length-runs per zero xs = refl
length-runs per (suc n) xs = ap suc (length-runs per n (drop per xs))

pub length-flat : {X : Type 0} (per : ℕ) (grouped : List (List X)) → AreRuns per grouped → length (flat grouped) ≡ length grouped * per
length-flat per [] are = omega arith
length-flat per (run ∷ more) are = omega (arith, length-append run (flat more), are.0, length-flat per more are.1)

pub runs_back : {X : Type 0} (per : ℕ) (grouped : List (List X)) → AreRuns per grouped → runs per (length grouped) (flat grouped) ≡ grouped
runs_back per [] are = refl
runs_back {X} per (run ∷ more) are =
    ap (λ (l : List X). l ∷ runs per (length more) (drop per (run ++ flat more))) (take_at run (flat more) per are.0)
    ∙ ap (λ (l : List X). run ∷ runs per (length more) l) (drop_at run (flat more) per are.0) ∙ ap (λ (l : List (List X)). run ∷ l) (runs_back per more are.1)

pub runs_last : {X : Type 0} (per n : ℕ) (xs ys : List X) → length xs ≡ n * per → length ys ≡ per → runs per (suc n) (xs ++ ys) ≡ runs per n xs ++ ys ∷ []
runs_last {X} per zero xs ys long last =
    let none = no_more xs (omega (arith, long)) in
    ap (λ (l : List X). take per (l ++ ys) ∷ []) none ∙ ap (λ (l : List X). l ∷ []) (ap (take per) (sym (append-nil ys)) ∙ take_at ys [] per last)
runs_last {X} per (suc n) xs ys long last =
    let few : per ≤ length xs = omega (arith, long) in
    ap (λ (l : List X). l ∷ runs per (suc n) (drop per (xs ++ ys))) (take_front per xs ys few)
    ∙ ap (λ (l : List X). take per xs ∷ runs per (suc n) l) (drop_front per xs ys few)
    ∙ ap (λ (l : List (List X)). take per xs ∷ l) (runs_last per n (drop per xs) ys (length-drop per xs ∙ omega (arith, long)) last)
  where
    take_front : (k : ℕ) (xs ys : List X) → k ≤ length xs → take k (xs ++ ys) ≡ take k xs
    take_front zero xs ys h = refl
    take_front (suc k) [] ys h = absurd (omega arith)
    take_front (suc k) (x ∷ xs) ys h = ap (λ (l : List X). x ∷ l) (take_front k xs ys (omega arith))

    drop_front : (k : ℕ) (xs ys : List X) → k ≤ length xs → drop k (xs ++ ys) ≡ drop k xs ++ ys
    drop_front zero xs ys h = refl
    drop_front (suc k) [] ys h = absurd (omega arith)
    drop_front (suc k) (x ∷ xs) ys h = drop_front k xs ys (omega arith)

-- ---- runs of payloads

sizes_take : (k : ℕ) (ps : List (List ℕ)) → sizes_of (take k ps) ≡ take k (sizes_of ps)
sizes_take zero ps = refl
sizes_take (suc k) [] = refl
sizes_take (suc k) (p ∷ ps) = ap (λ (l : List ℕ). length p ∷ l) (sizes_take k ps)

sizes_drop : (k : ℕ) (ps : List (List ℕ)) → sizes_of (drop k ps) ≡ drop k (sizes_of ps)
sizes_drop zero ps = refl
sizes_drop (suc k) [] = refl
sizes_drop (suc k) (p ∷ ps) = sizes_drop k ps

pub sizes_runs : (per n : ℕ) (ps : List (List ℕ)) → map sizes_of (runs per n ps) ≡ runs per n (sizes_of ps)
sizes_runs per zero ps = refl
sizes_runs per (suc n) ps = ap (λ (l : List ℕ). l ∷ map sizes_of (runs per n (drop per ps))) (sizes_take per ps) ∙ ap (λ (l : List (List ℕ)). take per (sizes_of ps) ∷ l) (sizes_runs per n (drop per ps) ∙ ap (runs per n) (sizes_drop per ps))

offsets_take : (k a : ℕ) (sizes : List ℕ) → offsets_from a (take k sizes) ≡ take k (offsets_from a sizes)
offsets_take zero a sizes = refl
offsets_take (suc k) a [] = refl
offsets_take (suc k) a (s ∷ sizes) = ap (λ (l : List ℕ). a ∷ l) (offsets_take k (a + s) sizes)

offsets_drop : (k a : ℕ) (sizes : List ℕ) → offsets_from (a + sum (take k sizes)) (drop k sizes) ≡ drop k (offsets_from a sizes)
offsets_drop zero a sizes = ap (λ (n : ℕ). offsets_from n sizes) (omega arith)
offsets_drop (suc k) a [] = refl
offsets_drop (suc k) a (s ∷ sizes) = ap (λ (n : ℕ). offsets_from n (drop k sizes)) (let z : a + sum (s ∷ take k sizes) ≡ (a + s) + sum (take k sizes) = omega (arith, sum_cons s (take k sizes)) in z) ∙ offsets_drop k (a + s) sizes

pub starts_runs : (per n a : ℕ) (sizes : List ℕ) → granule_starts a (runs per n sizes) ≡ runs per n (offsets_from a sizes)
starts_runs per zero a sizes = refl
starts_runs per (suc n) a sizes =
    ap (λ (l : List ℕ). l ∷ granule_starts (a + sum (take per sizes)) (runs per n (drop per sizes))) (offsets_take per a sizes)
    ∙ ap (λ (l : List (List ℕ)). take per (offsets_from a sizes) ∷ l) (starts_runs per n (a + sum (take per sizes)) (drop per sizes) ∙ ap (runs per n) (offsets_drop per a sizes))

concat_append : (xs ys : List (List ℕ)) → concat (xs ++ ys) ≡ concat xs ++ concat ys
concat_append [] ys = refl
concat_append (x ∷ xs) ys = ap (λ (l : List ℕ). x ++ l) (concat_append xs ys) ∙ sym (append_assoc x (concat xs) (concat ys))

pub concat_flat : (grouped : List (List (List ℕ))) → concat (map concat grouped) ≡ concat (flat grouped)
concat_flat [] = refl
concat_flat (run ∷ more) = ap (λ (l : List ℕ). concat run ++ l) (concat_flat more) ∙ sym (concat_append run (flat more))

pub sum_sizes : (ps : List (List ℕ)) → sum (sizes_of ps) ≡ length (concat ps)
sum_sizes [] = refl
sum_sizes (p ∷ ps) = omega (arith, sum_cons (length p) (sizes_of ps), sum_sizes ps, length-append p (concat ps))

pub sum_grouped : (grouped : List (List (List ℕ))) → sum (map sum (map sizes_of grouped)) ≡ length (concat (map concat grouped))
sum_grouped [] = refl
sum_grouped (run ∷ more) = omega (arith, sum_cons (sum (sizes_of run)) (map sum (map sizes_of more)), sum_grouped more, sum_sizes run, length-append (concat run) (concat (map concat more)))
