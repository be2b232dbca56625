-- The first bytes of a file decide what the services answer to it (Specification 8.3). Assumes nothing.
use Rattle.definitions.specs.Refusals.{Outcome, accepted, refused}
use Rattle.std.specs.declared.result.Result.TheVariants.{Err}
use Rattle.orders.specs.declared.Counts.{Counts}
use mathlib.Core.Path.{◌≡◌, refl, sym, ap, ap₂, ◌∙◌}
use mathlib.Core.List.{List, []}
use Prim.Native.Nat.{ℕ, ◌≤◌}
use lib.ListN.{length, take}
use lib.Seq.{take-take}
use Rattle.definitions.specs.Lent.{filled}
use Rattle.orders.specs.declared.Service.{Service}
use Rattle.definitions.specs.Limits.{order_limit}
use Rattle.orders.specs.Scan.{scan_of}
use Rattle.orders.proofs.Prefix.{accepted-whole, scan-prefix}
use Rattle.answers.specs.Answers.{answer_text}
use Rattle.promises.specs.Services.{Served, call_end, end_by, printed, served, served_by}
use Rattle.promises.specs.Promise.{ForInput, Prints}

-- what is served for a file that its scan refuses
abbrev pub refused_by : (number place : ℕ) → Served
refused_by number place = record { answer = refused number place; lines = [] }

-- so it is
pub served-refused : (service : Service) (file : List ℕ) {number place : ℕ}
    → scan_of service file ≡ refused number place → served service file ≡ refused_by number place
unfolding served served_by
served-refused service file e = ap (served_by service file) e

-- the answer to a file is the answer to its first bytes
pub first-bytes : (service : Service) (file : List ℕ) → served service (take order_limit file) ≡ served service file
first-bytes service file = go (scan_of service file) refl
  where
    go : (x : Outcome Counts) → scan_of service file ≡ x → served service (take order_limit file) ≡ served service file
    go (accepted c) e = ap (served service) (accepted-whole service file c e)
    go (Err r) e =
        served-refused service (take order_limit file) (scan-prefix service file ∙ e)
        ∙ sym (served-refused service file e)

-- and so is what is printed
pub first-printed : (service : Service) (file : List ℕ) → printed service (take order_limit file) ≡ printed service file
unfolding printed
first-printed service file = ap (λ (s : Served). answer_text s.answer s.lines) (first-bytes service file)

-- and how a C call ends
pub first-called : (service : Service) (file : List ℕ) (size : ℕ)
    → call_end service (take order_limit file) size ≡ call_end service file size
unfolding call_end
first-called service file size =
    ap₂ (end_by size) (ap (λ (s : Served). s.answer) (first-bytes service file)) (first-printed service file)

-- so it is enough to read as many bytes, or more
pub read-printed : (service : Service) (input : List ℕ) (room : ℕ) → order_limit ≤ room
    → printed service (take room input) ≡ printed service input
read-printed service input room h =
    sym (first-printed service (take room input))
    ∙ ap (printed service) (take-take order_limit room input h)
    ∙ first-printed service input

-- WHAT IS PRINTED for the bytes that were read is printed for every input that begins with them
pub prints-input : (service : Service) {bytes : List ℕ} {room count : ℕ} {area : List ℕ} → order_limit ≤ room
    → Prints service bytes count area → ForInput room bytes (λ input. Prints service input count area)
prints-input service {bytes} {room} {count} {area} h P input e =
    let same : printed service bytes ≡ printed service input =
    ap (printed service) (sym e) ∙ read-printed service input room h in
    record {
      counts = P.counts ∙ ap length same;
      area_holds = P.area_holds ∙ ap (filled 0 (length area)) same;
      text = P.text ∙ same;
    }
