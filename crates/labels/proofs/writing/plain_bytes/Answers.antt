-- `writing::plain_bytes` meets its contract: a range, an ID and a length without a fault, and what they make.
use Rattle.labels.proofs.Written.{entry_plain, entry_odd}
use Rattle.labels.proofs.writing.plain_bytes.Goals as goal

pub returns-then-in_store-id_byte : goal.returns-then-in_store-id_byte
returns-then-in_store-id_byte c = search entry_plain

pub returns-else-in_store-id_byte : goal.returns-else-in_store-id_byte
returns-else-in_store-id_byte c = search entry_odd
