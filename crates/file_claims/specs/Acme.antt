-- 000's example: "firmware version 0.1.2 for device named ACME Toaster mk3", after a payload of 256 bytes. Computed in proofs/Acme.antt. Assumes nothing.
use Rattle.std.specs.Prelude.{ℕ, ◌≡◌, List, [], ◌∷◌, ◌++◌, replicate, Ok, Some, None}
use Rattle.uf2_tags.specs.declared.one_tag.Tag.{Tag}
use Rattle.uf2_tags.specs.Tag.{contents_of}
use Rattle.uf2_tags.specs.Room.{first_place, tag_at}
use Rattle.uf2_tags.specs.Search.{find_of}
use Rattle.file_claims.specs.Laid.{Item, AllProper, Holds}

-- the magic numbers, flags 0x8000 and 0x2000, the payload's size; the payload; 000's three lines; the room's rest and the last magic number
unfoldable pub acme : List ℕ
acme =
    (0x55 ∷ 0x46 ∷ 0x32 ∷ 0x0a ∷ 0x57 ∷ 0x51 ∷ 0x5d ∷ 0x9e ∷ 0x00 ∷ 0xa0 ∷ 0 ∷ 0 ∷ 0 ∷ 0 ∷ 0 ∷ 0 ∷ 0 ∷ 1 ∷ []) ++ replicate 270 0
    ++ (0x09 ∷ 0xbc ∷ 0xc7 ∷ 0x9f ∷ 0x30 ∷ 0x2e ∷ 0x31 ∷ 0x2e ∷ 0x32 ∷ 0x00 ∷ 0x00 ∷ 0x00 ∷ [])
    ++ (0x14 ∷ 0x9d ∷ 0x9d ∷ 0x65 ∷ 0x41 ∷ 0x43 ∷ 0x4d ∷ 0x45 ∷ 0x20 ∷ 0x54 ∷ 0x6f ∷ 0x61 ∷ 0x73 ∷ 0x74 ∷ 0x65 ∷ 0x72 ∷ 0x20 ∷ 0x6d ∷ 0x6b ∷ 0x33 ∷ [])
    ++ (0x00 ∷ 0x00 ∷ 0x00 ∷ 0x00 ∷ []) ++ replicate 184 0 ++ (0x30 ∷ 0x6f ∷ 0xb1 ∷ 0x0a ∷ [])

abbrev pub version : Tag
version = record { kind = 0x9fc7bc; start = 292; len = 5; next = 300 }

-- its type stands as printed: 000's list has 0x650d9d
abbrev pub device : Tag
device = record { kind = 0x659d9d; start = 304; len = 16; next = 320 }

unfoldable pub AcmeReads : Type 0
AcmeReads =
    (tag_at acme (first_place acme) ∷ tag_at acme 300 ∷ tag_at acme 320 ∷ [] ≡ Ok (Some version) ∷ Ok (Some device) ∷ Ok None ∷ [])
    × (find_of acme 0x9fc7bc ∷ find_of acme 0x659d9d ∷ find_of acme 0x650d9d ∷ [] ≡ Ok (Some version) ∷ Ok (Some device) ∷ Ok None ∷ [])
    -- "0.1.2"
    × (contents_of acme version ≡ 0x30 ∷ 0x2e ∷ 0x31 ∷ 0x2e ∷ 0x32 ∷ [])

-- the two as tags to be laid out, "0.1.2" filled up by three bytes
unfoldable pub items : List Item
items =
    record { kind = 0x9fc7bc; bytes = 0x30 ∷ 0x2e ∷ 0x31 ∷ 0x2e ∷ 0x32 ∷ []; fill = 0 ∷ 0 ∷ 0 ∷ [] }
    ∷ record {
      kind = 0x659d9d;
      bytes = 0x41 ∷ 0x43 ∷ 0x4d ∷ 0x45 ∷ 0x20 ∷ 0x54 ∷ 0x6f ∷ 0x61 ∷ 0x73 ∷ 0x74 ∷ 0x65 ∷ 0x72 ∷ 0x20 ∷ 0x6d ∷ 0x6b ∷ 0x33 ∷ [];
      fill = [];
    }
    ∷ []

-- so that `TagsReadBack` is not empty: the example meets what it asks
unfoldable pub AcmeHolds : Type 0
AcmeHolds = AllProper items × Holds acme items
