-- What the parts of the services promise (Specification 1.2, 1.3 and 9.4). Assumes nothing.
use Rattle.definitions.specs.Refusals.{Outcome, accepted}
use Rattle.std.specs.declared.result.Result.TheVariants.{Err}
use Rattle.std.specs.Prelude.{◌≡◌, List, ℕ, ◌*◌, ◌≤◌, ◌<◌, ℤ, length, take}
use Rattle.definitions.specs.declared.Answer.{Answer}
use Rattle.definitions.specs.declared.Answer.TheVariants.{Moves, Split, Passed}
use Rattle.definitions.specs.Limits.{bare_limit, cells, exchange_limit, generator_limit}
use Rattle.definitions.specs.Lent.{chunks, filled}
use Rattle.theory.proofs.Refused.{place_limit}
use Rattle.vectors.specs.Areas.{LentMut}
use Rattle.orders.specs.declared.Service.{Service}
use Rattle.orders.specs.declared.Counts.{Counts}
use Rattle.orders.specs.Operands.{Readable, exchanges_in, generators_in, images_in}
use Rattle.answers.specs.Answers.{line_count}
use Rattle.answers.specs.Refusal.{place_factor}
use Rattle.promises.specs.Services.{CallEnd, Served, served_by}
use Rattle.promises.specs.Promise.{ForInput}

-- the commands of a file can be read, its counts say how many numbers they have, and three areas have room for any
pub record OrderFits (file : List ℕ) (c : Counts) (generators : List ℤ) (exchanges : List ℕ) (images : List ℤ)
    : Type 0 where
  pub readable : Readable file c
  pub generators_count : length (generators_in file c) ≡ c.generators * c.cells
  pub exchanges_count : length (exchanges_in file c) ≡ c.exchanges * c.cells
  pub images_count : length (images_in file c) ≡ c.images * c.generators
  pub generators_fit : generator_limit * cells ≤ length generators
  pub exchanges_fit : exchange_limit * cells ≤ length exchanges
  pub images_fit : exchange_limit * bare_limit * bare_limit ≤ length images

-- the generators, the exchanges and the images of a file stand at the start of three areas
pub record OrderRead (file : List ℕ) (c : Counts) (generators : List ℤ) (exchanges : List ℕ) (images : List ℤ)
    : Type 0 where
  pub generators_fit : c.generators * c.cells ≤ length generators
  pub exchanges_fit : c.exchanges * c.cells ≤ length exchanges
  pub images_fit : c.images * c.generators ≤ length images
  pub generators_are : take (c.generators * c.cells) generators ≡ generators_in file c
  pub exchanges_are : take (c.exchanges * c.cells) exchanges ≡ exchanges_in file c
  pub images_are : take (c.images * c.generators) images ≡ images_in file c

-- what is due to an accepted file with these counts
abbrev pub served_in : Service → (file : List ℕ) → Counts → Served
served_in service file c = served_by service file (accepted c)

-- the answer is the one that is due, and its lines are the first rows of `width` numbers of an area
pub record Serves (due : Served) (answer : Outcome Answer) (width : ℕ) (area : List ℤ) : Type 0 where
  pub answers : answer ≡ due.answer
  pub lines : chunks width (line_count answer) area ≡ due.lines
  pub room : line_count answer * width ≤ length area

-- a call ended as was due: its result, and its area
pub record Ends (due : CallEnd) (result : ℤ) (area : List ℕ) : Type 0 where
  pub results : result ≡ due.result
  pub area_holds : area ≡ due.area

-- .. in a lent area, as is due for its size
abbrev pub EndsIn : (area : LentMut ℕ) (due : (size : ℕ) → CallEnd) (result : ℤ) → Type 0
EndsIn area due result = Ends (due (length area.entry.now)) result area.exit.now

-- a refusal whose number and place can be read from the result
abbrev pub Small : Outcome Answer → Type 0
Small (Err r) = (r.number < place_factor) × (r.place ≤ place_limit)
Small (accepted (Moves rows members stored sums)) = Unit {0}
Small (accepted (Split pieces rows members stored sums)) = Unit {0}
Small (accepted (Passed rows sums)) = Unit {0}

-- n counts bytes at the start of xs: what a part of so many bytes asks
abbrev pub Counted : (n : ℕ) (xs : List ℕ) → Type 0
Counted n xs = (n ≤ length xs) × (n ≡ length (take n xs))

-- `count` counts bytes of an area of `size`, and where a text fits, it is its length: the text stands at the start,
-- and zeros behind it
pub record TextIn (text : List ℕ) (size count : ℕ) (area : List ℕ) : Type 0 where
  pub sized : length area ≡ size
  pub counted : Counted count area
  pub counts : length text ≤ size → count ≡ length text
  pub area_holds : length text ≤ size → area ≡ filled 0 size text

-- .. of a lent area
abbrev pub PrintsIn : (area : LentMut ℕ) (text : List ℕ) (count : ℕ) → Type 0
PrintsIn area text count = TextIn text (length area.entry.now) count area.exit.now

-- what is printed is promised of every input of which the first n bytes of a buffer are the first that it has room for
abbrev pub PrintedFor : (Promised : (input : List ℕ) (count : ℕ) (area : List ℕ) → Type 0) (buffer : List ℕ)
    (n count : ℕ) (area : List ℕ) → Type 0
PrintedFor Promised buffer n count area =
    ForInput (length buffer) (take n buffer) (λ input. Promised input count area)
