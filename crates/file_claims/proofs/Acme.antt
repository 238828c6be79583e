-- 000's example is read as specs/Acme.antt says, computed. Assumes nothing.
use Prim.Native.Nat.{◌+◌}
use mathlib.Core.Path.{◌≡◌, refl}
use native.Mathlib.Omega.{arith}
use lib.ListN.{length, take, drop}
use Rattle.laws.specs.Bytes.{low_first, number_in}
use Rattle.uf2_block.specs.Block.{field_at, is_block}
use Rattle.uf2_tags.specs.Tag.{tag_of, contents_of, sized}
use Rattle.uf2_tags.specs.Room.{first_place, kind_at, room_end, bad_payload, bad_place, tag_at}
use Rattle.uf2_tags.specs.Search.{seek, find_of}
use Rattle.file_claims.specs.Laid.{AllProper, item_bytes, laid}
use Rattle.file_claims.specs.Acme.{acme, AcmeReads, items, AcmeHolds}

pub acme_reads : AcmeReads
unfolding AcmeReads acme number_in field_at is_block first_place kind_at tag_of contents_of room_end bad_payload bad_place sized tag_at seek find_of
acme_reads = (refl, refl, refl)

pub acme_holds : AcmeHolds
unfolding AcmeHolds items acme AllProper item_bytes laid low_first number_in field_at is_block
acme_holds =
    let n : length (take 288 acme) + length (laid items) ≡ 324 = refl in (
      (record { kind_fits = omega arith; step = refl; least = omega arith }, (record { kind_fits = omega arith; step = refl; least = omega arith }, tt)),
      record {
        whole = refl;
        magic = refl;
        flag = refl;
        payload = refl;
        front = take 288 acme;
        rest = drop 324 acme;
        parts = refl;
        place = refl;
        room = omega (arith, n);
        short = λ y. omega (arith, n);
      },
    )
