-- What is known of a socket in memory.
use Rattle.std.specs.Prelude.{Option, Some}
use Rattle.jm_edge.specs.declared.memory_socket.MemorySocket.{MemorySocket}
use Rattle.jm_edge.specs.Sockets.{Origin}

-- the bytes of the link that the socket was made from
abbrev pub origin_of : MemorySocket → Option Origin
origin_of s = Some (record { left = s.input.left; held = s.output.held; early = s.early })
