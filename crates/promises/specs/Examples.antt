-- Specification 10: sample orders as files, and what the programs print for them. Assumes nothing.
use Rattle.std.specs.Prelude.{List, [], ◌∷◌, ℕ}

-- P4: SIZE, three GENERATORs, an EXCHANGE, END
unfoldable pub p4_file : List ℕ
p4_file =
    0x01 ∷ 0x03 ∷
    0x02 ∷ 0x01 ∷ 0x00 ∷ 0x00 ∷ 0x00 ∷ 0xFF ∷ 0xFF ∷
    0x02 ∷ 0x02 ∷ 0x00 ∷ 0xFF ∷ 0xFF ∷ 0x00 ∷ 0x00 ∷
    0x02 ∷ 0x00 ∷ 0x00 ∷ 0xFF ∷ 0xFF ∷ 0x02 ∷ 0x00 ∷
    0x03 ∷ 0x03 ∷ 0x02 ∷ 0x01 ∷
    0x00 ∷ []

-- MOVES 3 2 3 24, the rows (1,0,−1), (2,−1,0) and (1,−1,1), END
unfoldable pub p4_text : List ℕ
p4_text =
    77 ∷ 79 ∷ 86 ∷ 69 ∷ 83 ∷ 32 ∷ 51 ∷ 32 ∷ 50 ∷ 32 ∷ 51 ∷ 32 ∷ 50 ∷ 52 ∷ 10 ∷
    49 ∷ 32 ∷ 48 ∷ 32 ∷ 45 ∷ 49 ∷ 10 ∷
    50 ∷ 32 ∷ 45 ∷ 49 ∷ 32 ∷ 48 ∷ 10 ∷
    49 ∷ 32 ∷ 45 ∷ 49 ∷ 32 ∷ 49 ∷ 10 ∷
    69 ∷ 78 ∷ 68 ∷ 10 ∷ []

-- P7: SIZE, two GENERATORs, a VECTOR, END
unfoldable pub p7_file : List ℕ
p7_file =
    0x01 ∷ 0x01 ∷
    0x02 ∷ 0x02 ∷ 0x00 ∷
    0x02 ∷ 0x03 ∷ 0x00 ∷
    0x06 ∷ 0x05 ∷ 0x00 ∷ 0x00 ∷ 0x00 ∷
    0x00 ∷ []

-- SPLIT 1, the piece 0 0 1 5, END
unfoldable pub p7_text : List ℕ
p7_text =
    83 ∷ 80 ∷ 76 ∷ 73 ∷ 84 ∷ 32 ∷ 49 ∷ 10 ∷
    48 ∷ 32 ∷ 48 ∷ 32 ∷ 49 ∷ 32 ∷ 53 ∷ 10 ∷
    69 ∷ 78 ∷ 68 ∷ 10 ∷ []

-- P8: SIZE, a GENERATOR, a VECTOR that is not in the lattice, END
unfoldable pub p8_file : List ℕ
p8_file =
    0x01 ∷ 0x01 ∷
    0x02 ∷ 0x02 ∷ 0x00 ∷
    0x06 ∷ 0x01 ∷ 0x00 ∷ 0x00 ∷ 0x00 ∷
    0x00 ∷ []

-- REFUSED 15 0
unfoldable pub p8_text : List ℕ
p8_text =
    82 ∷ 69 ∷ 70 ∷ 85 ∷ 83 ∷ 69 ∷ 68 ∷ 32 ∷ 49 ∷ 53 ∷ 32 ∷ 48 ∷ 10 ∷ []

-- P17: SIZE, two GENERATORs, an EXCHANGE, two IMAGEs, END
unfoldable pub p17_file : List ℕ
p17_file =
    0x01 ∷ 0x03 ∷
    0x02 ∷ 0x01 ∷ 0x00 ∷ 0xFF ∷ 0xFF ∷ 0x00 ∷ 0x00 ∷
    0x02 ∷ 0x00 ∷ 0x00 ∷ 0x01 ∷ 0x00 ∷ 0xFF ∷ 0xFF ∷
    0x03 ∷ 0x02 ∷ 0x03 ∷ 0x01 ∷
    0x07 ∷ 0xFF ∷ 0xFF ∷ 0xFF ∷ 0xFF ∷ 0xFF ∷ 0xFF ∷ 0xFF ∷ 0xFF ∷
    0x07 ∷ 0x01 ∷ 0x00 ∷ 0x00 ∷ 0x00 ∷ 0x00 ∷ 0x00 ∷ 0x00 ∷ 0x00 ∷
    0x00 ∷ []

-- MOVES 1 3 1 6, the row (1,0,−1), END
unfoldable pub p17_text : List ℕ
p17_text =
    77 ∷ 79 ∷ 86 ∷ 69 ∷ 83 ∷ 32 ∷ 49 ∷ 32 ∷ 51 ∷ 32 ∷ 49 ∷ 32 ∷ 54 ∷ 10 ∷
    49 ∷ 32 ∷ 48 ∷ 32 ∷ 45 ∷ 49 ∷ 10 ∷
    69 ∷ 78 ∷ 68 ∷ 10 ∷ []
