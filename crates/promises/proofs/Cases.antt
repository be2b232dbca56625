-- What each service can answer to a file: a refusal that may be reported, or what its lent call found (Specification
-- 7.2). Assumes nothing.
use Rattle.theory.proofs.Faults.{number_of, place_of}
use Rattle.std.specs.declared.result.Result.TheVariants.{Err}
use Rattle.definitions.specs.Refusals.{Fault, no_fault}
use mathlib.Core.Path.{◌≡◌, refl, sym, ap, ◌∙◌, subst}
use mathlib.Core.List.{List}
use Prim.Native.Nat.{ℕ}
use native.Mathlib.Omega.{arith}
use lib.ListN.{take, length-take}
use Rattle.definitions.specs.declared.Answer.{Answer}
use Rattle.definitions.specs.declared.Answer.TheVariants.{Moves, Split as SplitAnswer, Passed}
use Rattle.definitions.specs.Refusals.{Outcome, accepted, refused}
use Rattle.definitions.specs.Calls.{Listing, Parts, check_end, list_call, list_end, split_call, split_end}
use Rattle.theory.proofs.Refused.{Reported, check-answer-reported, list-answer-reported, reported-more}
use Rattle.theory.proofs.Refused.{split-answer-reported}
use Rattle.orders.specs.declared.Service.{Service}
use Rattle.orders.specs.declared.Service.TheVariants.{List as ListService, Split as SplitService}
use Rattle.orders.specs.declared.Service.TheVariants.{Check as CheckService}
use Rattle.orders.specs.declared.Counts.{Counts}
use Rattle.definitions.specs.Limits.{order_limit}
use Rattle.orders.specs.Scan.{scan_of}
use Rattle.orders.specs.Operands.{coefficients_in, rows_in, vector_in}
use Rattle.orders.proofs.Scans.{turned_down}
use Rattle.orders.proofs.Prefix.{scan-prefix}
use Rattle.promises.specs.Services.{Served, group_size, list_size, order_in, pieces_size, served, served_by}
use Rattle.promises.proofs.Prefix.{served-refused}
use Rattle.promises.proofs.Orders.{Found, check-answer, check-found, fault_in, list-found, list_in, order-answer}
use Rattle.promises.proofs.Orders.{parts_in, split-found}

-- ---- the two cases

-- a service refuses a file, by a refusal that may be reported, or finds something
pub data Case (service : Service) (file : List ℕ) : Type 0 where
  refuses : (number place : ℕ) → (served service file).answer ≡ refused number place → Reported 22 number place
      → Case service file
  finds : Found service file → Case service file

-- ---- refused by the scan

-- the place of such a refusal is among the first bytes, or at their end
scan-reported : (service : Service) (file : List ℕ) (number place : ℕ)
    → scan_of service file ≡ refused number place → Reported 22 number place
scan-reported service file number place e =
    let t = turned_down service (take order_limit file) number place (scan-prefix service file ∙ e) in
    omega (arith, length-take order_limit file)

-- its case
scan-case : (service : Service) (file : List ℕ) (number place : ℕ) → scan_of service file ≡ refused number place
    → Case service file
scan-case service file number place e =
    refuses number place (ap (λ (s : Served). s.answer) (served-refused service file e))
    (scan-reported service file number place e)

-- ---- an accepted order

-- List, by its outcome
list-case : (file : List ℕ) (c : Counts) → scan_of ListService file ≡ accepted c → (o : Outcome Listing)
    → list_in file c ≡ o → Case ListService file
unfolding served_by list_call list_end
list-case file c e (accepted found) q = finds (list-found file c e found q)
list-case file c e (Err r) q =
    let a = ap (λ (o : Outcome Listing). (list_end c.cells (list_size c) (group_size c) o).answer) q in
    refuses r.number r.place (order-answer ListService file e a)
    (list-answer-reported (order_in file c) (list_size c) (group_size c) r.number r.place a)

-- Split, by its outcome
split-case : (file : List ℕ) (c : Counts) → scan_of SplitService file ≡ accepted c → (o : Outcome Parts)
    → parts_in file c ≡ o → Case SplitService file
unfolding served_by split_call split_end
split-case file c e (accepted found) q = finds (split-found file c e found q)
split-case file c e (Err r) q =
    let a = ap (λ (o : Outcome Parts). (split_end c.cells (list_size c) (group_size c) pieces_size o).answer) q in
    refuses r.number r.place (order-answer SplitService file e a)
    (split-answer-reported (order_in file c) (vector_in file c) (list_size c) (group_size c) pieces_size r.number r.place a)

-- Check, by its fault
check-case : (file : List ℕ) (c : Counts) → scan_of CheckService file ≡ accepted c → (fault : Fault)
    → fault_in file c ≡ fault → Case CheckService file
unfolding served_by check_end
check-case file c e no_fault q = finds (record { counts = c; scanned = e; passes = q; answers = check-found file c e q })
check-case file c e (Err r) q =
    let a = check-answer file c e q in
    refuses r.number r.place (order-answer CheckService file e a)
    (check-answer-reported (order_in file c) (rows_in file c) (coefficients_in file c) (group_size c) r.number r.place a)

-- ---- every file

-- by the service and the scan
case-by : (service : Service) (file : List ℕ) (x : Outcome Counts) → scan_of service file ≡ x → Case service file
case-by service file (Err r) e = scan-case service file r.number r.place e
case-by ListService file (accepted c) e = list-case file c e (list_in file c) refl
case-by SplitService file (accepted c) e = split-case file c e (parts_in file c) refl
case-by CheckService file (accepted c) e = check-case file c e (fault_in file c) refl

-- THE ANSWERS TO A FILE
pub case-of : (service : Service) (file : List ℕ) → Case service file
case-of service file = case-by service file (scan_of service file) refl

-- ---- an answer by its case

-- a refusal, and no other answer
abbrev pub IsRefusal : Outcome Answer → Type 0
IsRefusal (accepted (Moves rows g stored sums)) = ⊥
IsRefusal (accepted (SplitAnswer pieces rows g stored sums)) = ⊥
IsRefusal (accepted (Passed rows sums)) = ⊥
IsRefusal (Err r) = Unit {0}

-- where a service answers no refusal, it found something
pub found-unless : (service : Service) (file : List ℕ) {answer : Outcome Answer} → (served service file).answer ≡ answer
    → ¬ (IsRefusal answer) → Found service file
found-unless service file {answer} e other = go (case-of service file)
  where
    go : Case service file → Found service file
    go (refuses number place q r) = absurd (other (subst IsRefusal (sym q ∙ e) tt))
    go (finds F) = F

-- where it found something, it answers no refusal
found-other : (service : Service) (file : List ℕ) → Found service file → ¬ (IsRefusal (served service file).answer)
found-other ListService file F = subst IsRefusal F.answers
found-other SplitService file F = subst IsRefusal F.answers
found-other CheckService file F = subst IsRefusal F.answers

-- THE REFUSAL OF A FILE has one of the numbers 1 to 22, and no place past those of sums
pub served-reported : (service : Service) (file : List ℕ) (number place : ℕ)
    → (served service file).answer ≡ refused number place → Reported 22 number place
served-reported service file number place e = go (case-of service file)
  where
    go : Case service file → Reported 22 number place
    go (refuses a b q r) =
        let x = sym q ∙ e in
        let y : a ≡ number = ap number_of x in
        let z : b ≡ place = ap place_of x in
        reported-more (omega arith) y z r
    go (finds F) = absurd (found-other service file F (subst IsRefusal (sym e) tt))
