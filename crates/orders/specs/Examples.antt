-- Specification 8.3: the example files, and what their scans answer. Assumes nothing.
use Rattle.definitions.specs.Refusals.{Outcome, accepted, refused}
use Rattle.orders.specs.declared.Counts.{Counts}
use Rattle.std.specs.Prelude.{List, [], ◌∷◌, ◌++◌, ℕ, ◌+◌, length, replicate}
use Rattle.definitions.specs.Limits.{cells, generator_limit, bare_limit}
use Rattle.definitions.specs.Lists.{concat}

-- a line of the table
pub record Example : Type 0 where
  pub file : List ℕ
  pub found : Outcome Counts

-- a file that is refused
abbrev refusal : (file : List ℕ) (number place : ℕ) → Example
refusal file number place = record { file = file; found = refused number place }

-- generators of one cell
abbrev generators : (count : ℕ) → List ℕ
generators count = concat (replicate count (0x02 ∷ 0x01 ∷ 0x00 ∷ []))

-- SIZE and all generators that may be
abbrev full_file : List ℕ
full_file = 0x01 ∷ 0x01 ∷ [] ++ generators generator_limit

-- SIZE, one generator more than a bare order may have, and an exchange
abbrev crowded_file : List ℕ
crowded_file = 0x01 ∷ 0x01 ∷ [] ++ generators (bare_limit + 1) ++ (0x03 ∷ 0x01 ∷ [])

-- SIZE, a generator, two exchanges and an IMAGE
abbrev image_file : List ℕ
image_file =
    0x01 ∷ 0x01 ∷ 0x02 ∷ 0x01 ∷ 0x00 ∷ 0x03 ∷ 0x01 ∷ 0x03 ∷ 0x01 ∷ 0x07 ∷ 0x01 ∷ 0x00 ∷ 0x00 ∷ 0x00 ∷ []

-- for any service
unfoldable pub for_any : List Example
for_any =
    refusal [] 1 0
    ∷ refusal (0x01 ∷ []) 1 0
    ∷ refusal (0x01 ∷ 0x03 ∷ []) 1 2
    ∷ refusal (0x01 ∷ 0x00 ∷ []) 5 0
    ∷ refusal (0x01 ∷ (cells + 1) ∷ []) 5 0
    ∷ refusal (0x08 ∷ []) 2 0
    ∷ refusal (0x07 ∷ []) 3 0
    ∷ refusal (0x01 ∷ 0x01 ∷ 0x01 ∷ []) 3 2
    ∷ refusal (0x01 ∷ 0x01 ∷ 0x02 ∷ 0x05 ∷ []) 1 2
    ∷ refusal (0x01 ∷ 0x01 ∷ 0x03 ∷ 0x01 ∷ 0x02 ∷ 0x01 ∷ 0x00 ∷ 0x00 ∷ []) 3 4
    ∷ refusal (full_file ++ (0x02 ∷ 0x01 ∷ [])) 6 (length full_file)
    ∷ refusal (full_file ++ (0x03 ∷ 0x01 ∷ []) ++ generators 1 ++ (0x00 ∷ [])) 3 (length full_file + 2)
    ∷ refusal (0x01 ∷ 0x01 ∷ 0x03 ∷ 0x01 ∷ 0x07 ∷ []) 3 4
    ∷ refusal (crowded_file ++ (0x07 ∷ [])) 6 (length crowded_file)
    ∷ refusal (image_file ++ (0x00 ∷ [])) 3 (length image_file)
    ∷ refusal (image_file ++ (0x03 ∷ 0x01 ∷ [])) 3 (length image_file)
    ∷ refusal (image_file ++ (0x07 ∷ 0x01 ∷ [])) 1 (length image_file)
    ∷ refusal (image_file ++ (0x07 ∷ 0x01 ∷ 0x00 ∷ 0x00 ∷ 0x00 ∷ 0x07 ∷ [])) 3 (length image_file + 5)
    ∷ []

-- for List; the last two are an order of two cells, a generator and an exchange, and a bare order of one cell
unfoldable pub for_list : List Example
for_list =
    refusal (0x06 ∷ []) 3 0
    ∷ refusal (0x01 ∷ 0x01 ∷ 0x00 ∷ 0x07 ∷ []) 4 3
    ∷ record {
      file = 0x01 ∷ 0x02 ∷ 0x02 ∷ 0x01 ∷ 0x00 ∷ 0xFF ∷ 0xFF ∷ 0x03 ∷ 0x02 ∷ 0x01 ∷ 0x00 ∷ [];
      found = accepted (record { cells = 2; generators = 1; exchanges = 1; images = 0; rows = 0 });
    }
    ∷ record {
      file = image_file ++ (0x07 ∷ 0x01 ∷ 0x00 ∷ 0x00 ∷ 0x00 ∷ 0x00 ∷ []);
      found = accepted (record { cells = 1; generators = 1; exchanges = 2; images = 2; rows = 0 });
    }
    ∷ []

-- a Split of (−2, 2)
unfoldable pub split_file : List ℕ
split_file =
    0x01 ∷ 0x02 ∷ 0x02 ∷ 0x01 ∷ 0x00 ∷ 0xFF ∷ 0xFF ∷
    0x06 ∷ 0xFE ∷ 0xFF ∷ 0xFF ∷ 0xFF ∷ 0x02 ∷ 0x00 ∷ 0x00 ∷ 0x00 ∷ 0x00 ∷ []

-- for Split
unfoldable pub for_split : List Example
for_split =
    refusal (0x01 ∷ 0x01 ∷ 0x00 ∷ []) 3 2
    ∷ refusal (0x01 ∷ 0x01 ∷ 0x06 ∷ 0x01 ∷ 0x00 ∷ 0x00 ∷ 0x00 ∷ 0x06 ∷ []) 3 7
    ∷ record {
      file = split_file;
      found = accepted (record { cells = 2; generators = 1; exchanges = 0; images = 0; rows = 0 });
    }
    ∷ []

-- a Check of the row (1, −1), once the generator, with an exchange of the two cells
unfoldable pub check_file : List ℕ
check_file =
    0x01 ∷ 0x02 ∷ 0x02 ∷ 0x01 ∷ 0x00 ∷ 0xFF ∷ 0xFF ∷ 0x03 ∷ 0x02 ∷ 0x01 ∷
    0x04 ∷ 0x01 ∷ 0x00 ∷ 0xFF ∷ 0xFF ∷ 0x05 ∷ 0x01 ∷ 0x00 ∷ 0x00 ∷ 0x00 ∷ 0x00 ∷ []

-- for Check
unfoldable pub for_check : List Example
for_check =
    refusal (0x01 ∷ 0x01 ∷ 0x04 ∷ 0x01 ∷ 0x00 ∷ 0x00 ∷ []) 3 5
    ∷ refusal (0x01 ∷ 0x01 ∷ 0x05 ∷ []) 3 2
    ∷ record {
      file = check_file;
      found = accepted (record { cells = 2; generators = 1; exchanges = 1; images = 0; rows = 1 });
    }
    ∷ []
