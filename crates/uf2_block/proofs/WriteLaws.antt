-- The laws of fields that are written, passed on from `words`. Assumes nothing.
pub use Rattle.uf2_block.proofs.words.WriteLaws.{put_past, put_over, set_next, put_after, field_le32}
