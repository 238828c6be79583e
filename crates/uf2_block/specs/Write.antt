-- Fields that are written, passed on from `words`. Assumes nothing.
pub use Rattle.uf2_block.specs.WordsWrite.{le32}
unfoldable pub use Rattle.uf2_block.specs.WordsWrite.{put_at}
